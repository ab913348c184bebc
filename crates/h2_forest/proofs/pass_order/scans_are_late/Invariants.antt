use Rattle.std.proofs.Common.{drop}
use Rattle.std.specs.Prelude.{◌↔◌}
use Rattle.h2_forest.specs.History.{Each, IsLateScan, after_durable, ScansAreLate}
use Rattle.h2_forest.proofs.pass_order.scans_are_late.Given as goal

abbrev pub invariant-loop-item : goal.invariant-loop-item
invariant-loop-item l = Each IsLateScan after_durable l.durable.items (drop l.item-index l.items) ↔ ScansAreLate l.items
