use Rattle.std.proofs.Common.{◌+◌, drop, ap, sym, ◌∙◌, subst, refl}
use Rattle.std.specs.Prelude.{◌↔◌}
use Rattle.h2_forest.specs.History.{Each, IsCounted, index_of, counted, CountsUp}
use Rattle.h2_forest.specs.HistoryLaws.{each_next}
use Rattle.h2_forest.proofs.item_order.counts_up.Goals as goal

pub loop-item-preserved : goal.loop-item-preserved
loop-item-preserved c =
    let client = c.args.client in let items = c.args.items.now in let i = c.loop-item.item-index in let next = c.loop-item.next in
    subst (λ s. Each (λ next x. IsCounted next (index_of client x)) (λ next x. counted next (index_of client x)) s (drop (i + 1) items) ↔ CountsUp client items)
    (sym (c.counted-next.ensures ∙ ap (counted next) c.index_of-index.ensures))
    (each_next (λ next x. IsCounted next (index_of client x)) (λ next x. counted next (index_of client x)) next items i c.item-item.result (CountsUp client items) c.loop-item-test.true c.item-item.is c.loop-item.invariant
    (subst (IsCounted next) c.index_of-index.ensures (c.if-not-is_counted.ensures.0 refl)))
