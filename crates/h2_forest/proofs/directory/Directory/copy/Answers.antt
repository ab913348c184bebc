use Rattle.std.proofs.Common.{ap, sym, ◌∙◌}
use Rattle.std.specs.Ordering.{nat_cmp}
use Rattle.std.specs.Cmp.Lexicographic.{slice_cmp, nat_list_cmp_total}
use Rattle.std.specs.FinMap.{from_entries, insert, empty, slice_cmp-IsAntisymmetric, nat_cmp-IsAntisymmetric}
use Rattle.h2_maps.specs.Maps.{put_all, put_all_sorted, one_inserted}
use Rattle.h2_forest.proofs.directory.Directory.copy.Goals as goal

pub loop-name-init : goal.loop-name-init
loop-name-init c = ap (λ es. put_all nat_list_cmp_total (slice_cmp-IsAntisymmetric nat_cmp-IsAntisymmetric) (from_entries {R = slice_cmp nat_cmp} es) c.into_iter-name-iterator.result) c.new-entries.ensures.empty

pub loop-name-preserved : goal.loop-name-preserved
loop-name-preserved c =
    ap (λ m. put_all nat_list_cmp_total (slice_cmp-IsAntisymmetric nat_cmp-IsAntisymmetric) m c.next.new.self)
    (one_inserted nat_list_cmp_total (slice_cmp-IsAntisymmetric nat_cmp-IsAntisymmetric) c.loop-name.entries.entries c.insert.new.self.entries c.in_ok-copy.field-0 c.in-Some.number.now c.in_ok-insert.ensures.updates.0
    ∙ ap (λ k. insert (from_entries {R = slice_cmp nat_cmp} c.loop-name.entries.entries) k c.in-Some.number.now) c.in_ok-copy.ensures)
    ∙ ap (λ es. put_all nat_list_cmp_total (slice_cmp-IsAntisymmetric nat_cmp-IsAntisymmetric) (from_entries {R = slice_cmp nat_cmp} c.loop-name.entries.entries) es) (sym c.in-Some.ensures.steps)
    ∙ c.loop-name.invariant

pub returns : goal.returns
returns c =
    ap (λ es. put_all nat_list_cmp_total (slice_cmp-IsAntisymmetric nat_cmp-IsAntisymmetric) (from_entries {R = slice_cmp nat_cmp} c.loop-name.entries.entries) es) (sym c.in-None.ensures.steps.0)
    ∙ c.loop-name.invariant
    ∙ ap (λ es. put_all nat_list_cmp_total (slice_cmp-IsAntisymmetric nat_cmp-IsAntisymmetric) (empty {R = slice_cmp nat_cmp}) es) (c.into_iter-name-iterator.ensures.into_iter_gives ∙ c.iter-name-items.ensures.rest)
    ∙ put_all_sorted nat_list_cmp_total (slice_cmp-IsAntisymmetric nat_cmp-IsAntisymmetric) c.self.inside.entries.entries c.iter-name-items.ensures.ordered ∙ c.self.view_is
