use Rattle.std.proofs.Common.{◌≡◌, drop}
use Rattle.h2_forest.specs.Forest.{closed}
use Rattle.h2_forest.specs.Landing.{frozen_from}
use Rattle.h2_forest.proofs.landing.frozen_forest.Given as goal

abbrev pub invariant-loop-item : goal.invariant-loop-item
invariant-loop-item l = frozen_from l.number l.forest (drop l.item-index l.item-items) ≡ frozen_from l.number (closed l.fn.first) l.item-items
