use Rattle.h2_num.specs.Places.{places, SameOutside, ZeroIn}
use Rattle.std.proofs.Common.{◌-◌}
use Rattle.h2_disk.proofs.zeros.clear_range.Given as goal

abbrev pub invariant-loop-k : goal.invariant-loop-k
invariant-loop-k l = record {
  zeros : ZeroIn l.from l.k (places l.buf);
  others : SameOutside l.from (l.k - l.from) (places l.initial.buf) (places l.buf);
}
