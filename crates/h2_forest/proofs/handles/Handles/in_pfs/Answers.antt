use Rattle.std.proofs.Common.{ap, sym, ◌∙◌, ◌+◌, ℕ, add-zero}
use Rattle.std.specs.Prelude.{count_by, nat_eq}
use Rattle.std.specs.FinMap as map
use Rattle.h2_maps.specs.Maps.{kept_values}
use Rattle.h2_forest.specs.HandleLaws.{handles_total, exact_handles}
use Rattle.h2_forest.proofs.handles.Handles.in_pfs.Goals as goal

pub returns : goal.returns
returns c =
    sym (add-zero c.loop-at.count)
    ∙ ap (λ rest. c.loop-at.count + count_by (λ (x : ℕ × ℕ). nat_eq x.0 c.args.pfs) rest) (sym c.in-None.ensures.steps.0)
    ∙ c.loop-at.invariant
    ∙ ap (count_by (λ (x : ℕ × ℕ). nat_eq x.0 c.args.pfs)) (c.into_iter-at-iterator.ensures.into_iter_gives ∙ c.values-at-items.ensures.rest
    ∙ sym (kept_values handles_total exact_handles c.self.inside.open.entries c.values-at-items.ensures.ordered) ∙ ap map.values c.self.view_is)
