use Rattle.std.proofs.Common.{ap, sym, ◌∙◌, refl, ℕ}
use Rattle.std.specs.Prelude.{not, Some, ◌||◌, Bool}
use Rattle.std.specs.List.{filter}
use Rattle.std.specs.Ordering.{nat_cmp}
use Rattle.std.specs.Cmp.{nat_cmp_total}
use Rattle.std.specs.FinMap.{empty, nat_cmp-IsAntisymmetric}
use Rattle.h2_maps.specs.Maps.{put_all}
use Rattle.h2_forest.specs.Table.{is_orphan, without_orphans}
use Rattle.h2_forest.specs.Forest.{is_named}
use Rattle.h2_forest.specs.declared.table.Node.{Node}
use Rattle.h2_forest.proofs.Trimming.{kept_inodes}
use Rattle.h2_forest.proofs.table.Table.copy_trimmed.Goals as goal

pub returns : goal.returns
returns c =
    let test : ℕ × Node → Bool = λ x. is_named c.args.handles.now c.args.pfs x.0 || not (is_orphan (Some x.1)) in
    ap (λ es. put_all nat_cmp_total nat_cmp-IsAntisymmetric c.loop-number.copy (filter test es)) (sym c.in-None.ensures.steps.0)
    ∙ c.loop-number.invariant
    ∙ ap (λ es. put_all nat_cmp_total nat_cmp-IsAntisymmetric (empty {X = Node} {R = nat_cmp}) (filter test es)) (c.into_iter-number-iterator.ensures.into_iter_gives ∙ c.iter-number-items.ensures.rest)
    ∙ kept_inodes test (λ k o. is_named c.args.handles.now c.args.pfs k || not (is_orphan o)) (λ k x. refl) c.self.inside.nodes.entries c.iter-number-items.ensures.ordered
    ∙ ap (λ t. without_orphans t (is_named c.args.handles.now c.args.pfs)) c.self.view_is
