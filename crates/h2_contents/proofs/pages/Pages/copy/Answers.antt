use Rattle.std.proofs.Common.{◌≡◌, ◌∷◌, ap, sym, ◌∙◌, ℕ, List}
use Rattle.std.specs.Ordering.{nat_cmp}
use Rattle.std.specs.Cmp.{nat_cmp_total}
use Rattle.std.specs.FinMap.{from_entries, insert, empty, nat_cmp-IsAntisymmetric}
use Rattle.h2_maps.specs.Maps.{put_all, put_all_sorted, one_inserted}
use Rattle.h2_contents.proofs.pages.Pages.copy.Goals as goal

pub loop-number-init : goal.loop-number-init
loop-number-init c = ap (λ es. put_all nat_cmp_total nat_cmp-IsAntisymmetric (from_entries {R = nat_cmp} es) c.into_iter-number-iterator.result) c.new-pages.ensures.empty

pub loop-number-preserved-in_ok-insert : goal.loop-number-preserved-in_ok-insert
loop-number-preserved-in_ok-insert c =
    ap (λ m. put_all nat_cmp_total nat_cmp-IsAntisymmetric m c.next.new.self)
    (one_inserted nat_cmp_total nat_cmp-IsAntisymmetric c.loop-number.pages.entries c.insert.new.self.entries c.in-Some.number.now c.in_ok-copy.field-0 c.in_ok-insert.ensures.updates.0
    ∙ ap (λ v. insert (from_entries {R = nat_cmp} c.loop-number.pages.entries) c.in-Some.number.now v) c.in_ok-copy.ensures)
    ∙ ap (λ es. put_all nat_cmp_total nat_cmp-IsAntisymmetric (from_entries {R = nat_cmp} c.loop-number.pages.entries) es) (sym c.in-Some.ensures.steps)
    ∙ c.loop-number.invariant

pub loop-number-preserved-in_ok-insert-2 : goal.loop-number-preserved-in_ok-insert-2
loop-number-preserved-in_ok-insert-2 c =
    ap (λ m. put_all nat_cmp_total nat_cmp-IsAntisymmetric m c.next.new.self)
    (one_inserted nat_cmp_total nat_cmp-IsAntisymmetric c.loop-number.pages.entries c.insert.new.self.entries c.in-Some.number.now c.in_ok-copy.field-0 c.in_ok-insert.ensures.updates.0
    ∙ ap (λ v. insert (from_entries {R = nat_cmp} c.loop-number.pages.entries) c.in-Some.number.now v) c.in_ok-copy.ensures)
    ∙ ap (λ es. put_all nat_cmp_total nat_cmp-IsAntisymmetric (from_entries {R = nat_cmp} c.loop-number.pages.entries) es) (sym c.in-Some.ensures.steps)
    ∙ c.loop-number.invariant

pub loop-number-preserved : goal.loop-number-preserved
loop-number-preserved c =
    ap (λ m. put_all nat_cmp_total nat_cmp-IsAntisymmetric m c.next.new.self)
    (one_inserted nat_cmp_total nat_cmp-IsAntisymmetric c.loop-number.pages.entries c.insert.new.self.entries c.in-Some.number.now c.in_ok-copy.field-0 c.in_ok-insert.ensures.updates.0
    ∙ ap (λ v. insert (from_entries {R = nat_cmp} c.loop-number.pages.entries) c.in-Some.number.now v) c.in_ok-copy.ensures)
    ∙ ap (λ es. put_all nat_cmp_total nat_cmp-IsAntisymmetric (from_entries {R = nat_cmp} c.loop-number.pages.entries) es) (sym c.in-Some.ensures.steps)
    ∙ c.loop-number.invariant

pub returns : goal.returns
returns c =
    ap (λ es. put_all nat_cmp_total nat_cmp-IsAntisymmetric (from_entries {R = nat_cmp} c.loop-number.pages.entries) es) (sym c.in-None.ensures.steps.0)
    ∙ c.loop-number.invariant
    ∙ ap (λ es. put_all nat_cmp_total nat_cmp-IsAntisymmetric (empty {R = nat_cmp}) es) (c.into_iter-number-iterator.ensures.into_iter_gives ∙ c.iter-number-items.ensures.rest)
    ∙ put_all_sorted nat_cmp_total nat_cmp-IsAntisymmetric c.self.inside.pages.entries c.iter-number-items.ensures.ordered ∙ c.self.view_is
