use Rattle.std.proofs.Common.{◌≡◌, drop}
use Rattle.h2_forest.specs.History.{after}
use Rattle.h2_forest.specs.Landing.{newest_item}
use Rattle.h2_forest.proofs.landing.durable_by.Given as goal

abbrev pub invariant-loop-item : goal.invariant-loop-item
invariant-loop-item l = after (newest_item l.moment) l.newest (drop l.item-index l.items) ≡ after (newest_item l.moment) l.opened l.items
