use Rattle.std.proofs.Common.{◌≡◌, take}
use Rattle.std.specs.Prelude.{filter}
use Rattle.h2_set.specs.Ranges.{lies}
use Rattle.h2_set.proofs.split.lying_in.Given as goal

abbrev pub invariant-loop-r : goal.invariant-loop-r
invariant-loop-r l = l.inner.items ≡ filter (lies l.key l.bits) (take l.r-index l.all)
