use Rattle.std.proofs.Common.{ℕ, ◌<◌}
use Rattle.h2_set.specs.RefSet.{HoldsHalf}
use Rattle.h2_set.proofs.split.least_range.Given as goal

abbrev pub invariant-loop-bits : goal.invariant-loop-bits
invariant-loop-bits l = (k b : ℕ) → b < l.bits → HoldsHalf l.all k b → ⊥
