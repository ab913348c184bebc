use Rattle.std.proofs.Common.{◌≡◌, length, take}
use Rattle.h2_file.proofs.cutting.truncate.Given as goal

abbrev pub invariant-loop-set : goal.invariant-loop-set
invariant-loop-set l = record {
  first : take l.count l.set.refs ≡ take l.count l.fn.set.refs;
  capacity : l.set.capacity ≡ l.fn.set.capacity;
}

abbrev pub decreases-loop-set : goal.decreases-loop-set
decreases-loop-set l = length l.set.refs
