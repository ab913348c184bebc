use Rattle.std.proofs.Common.{◌+◌, ap, sym, ◌∙◌, subst}
use Rattle.h2_forest.specs.Forest.{closed}
use Rattle.h2_forest.specs.History.{IsRight, after_item}
use Rattle.h2_forest.specs.HistoryLaws.{after_taken, each_taken}
use Rattle.h2_forest.proofs.replaying.replay.Goals as goal

pub loop-item-preserved : goal.loop-item-preserved
loop-item-preserved c =
    let h = c.items-item-items.result.now in let i = c.loop-item.item-index in let x = c.item-item.result in let inv = c.loop-item.invariant in
    record {
      place = ap (λ n. n + 1) inv.place;
      forest_is = c.in_ok-pass_over.ensures.after ∙ ap (λ f. after_item f x) inv.forest_is ∙ sym (after_taken IsRight after_item (closed c.args.start) h i x c.loop-item-test.true c.item-item.is);
      right = each_taken IsRight after_item (closed c.args.start) h i x c.loop-item-test.true c.item-item.is inv.right (subst (λ f. IsRight f x) inv.forest_is (c.in_ok-pass_over.ensures.right.0 c.if-not-branch.false));
    }
