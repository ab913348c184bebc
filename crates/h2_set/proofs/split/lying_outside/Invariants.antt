use Rattle.std.proofs.Common.{◌≡◌, take}
use Rattle.std.specs.Prelude.{filter, not}
use Rattle.h2_set.specs.Ranges.{lies}
use Rattle.h2_set.proofs.split.lying_outside.Given as goal

abbrev pub invariant-loop-r : goal.invariant-loop-r
invariant-loop-r l = l.outer.items ≡ filter (λ q. not (lies l.key l.bits q)) (take l.r-index l.all)
