use Rattle.std.proofs.Common.{◌≡◌, length}
use Rattle.h2_num.specs.Places.{places}
use Rattle.h2_set.specs.Front.{FrontAt}
use Rattle.h2_set.proofs.set_decoding.fill_front.Given as goal

abbrev pub invariant-loop-i : goal.invariant-loop-i
invariant-loop-i l = record {
  capacity_is : l.set.capacity ≡ l.capacity;
  len : length l.set.refs ≡ l.i;
  front : FrontAt l.set.refs (places l.b);
}
