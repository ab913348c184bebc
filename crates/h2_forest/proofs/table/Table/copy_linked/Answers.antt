use Rattle.std.proofs.Common.{ap, sym, ◌∙◌, refl, false}
use Rattle.std.specs.Prelude.{not, Some, ◌||◌}
use Rattle.std.specs.List.{filter}
use Rattle.std.specs.Ordering.{nat_cmp}
use Rattle.std.specs.Cmp.{nat_cmp_total}
use Rattle.std.specs.FinMap.{empty, nat_cmp-IsAntisymmetric}
use Rattle.h2_maps.specs.Maps.{put_all, kept_passing}
use Rattle.h2_forest.specs.Table.{is_orphan, without_orphans}
use Rattle.h2_forest.specs.declared.table.Node.{Node}
use Rattle.h2_forest.proofs.table.Table.copy_linked.Goals as goal

pub returns : goal.returns
returns c =
    ap (λ es. put_all nat_cmp_total nat_cmp-IsAntisymmetric c.loop-number.copy (filter (λ x. not (is_orphan (Some x.1))) es)) (sym c.in-None.ensures.steps.0)
    ∙ c.loop-number.invariant
    ∙ ap (λ es. put_all nat_cmp_total nat_cmp-IsAntisymmetric (empty {X = Node} {R = nat_cmp}) (filter (λ x. not (is_orphan (Some x.1))) es)) (c.into_iter-number-iterator.ensures.into_iter_gives ∙ c.iter-number-items.ensures.rest)
    ∙ kept_passing nat_cmp_total nat_cmp-IsAntisymmetric (λ x. not (is_orphan (Some x))) (λ o. false || not (is_orphan o)) (λ x. refl) c.self.inside.nodes.entries c.iter-number-items.ensures.ordered
    ∙ ap (λ t. without_orphans t (λ n. false)) c.self.view_is
