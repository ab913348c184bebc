use Rattle.std.proofs.Common.{drop}
use Rattle.std.specs.Prelude.{◌↔◌}
use Rattle.h2_forest.specs.History.{Each, IsCounted, index_of, counted, CountsUp}
use Rattle.h2_forest.proofs.item_order.counts_up.Given as goal

abbrev pub invariant-loop-item : goal.invariant-loop-item
invariant-loop-item l = Each (λ next x. IsCounted next (index_of l.client x)) (λ next x. counted next (index_of l.client x)) l.next (drop l.item-index l.items) ↔ CountsUp l.client l.items
