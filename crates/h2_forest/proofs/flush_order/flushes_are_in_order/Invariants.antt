use Rattle.std.proofs.Common.{drop}
use Rattle.std.specs.Prelude.{◌↔◌}
use Rattle.h2_forest.specs.History.{Each, IsFlushItem, after_flush_item, FlushesInOrder}
use Rattle.h2_forest.proofs.flush_order.flushes_are_in_order.Given as goal

abbrev pub invariant-loop-item : goal.invariant-loop-item
invariant-loop-item l = Each IsFlushItem after_flush_item l.flush (drop l.item-index l.items) ↔ FlushesInOrder l.opened l.items
