use Rattle.std.proofs.Common.{◌≡◌, ℕ, true, refl, sym, ap, subst, arith, zero, suc, true≢false}
use Rattle.std.proofs.lemmas.Option.{none-some, same_Some}
use Rattle.h2_ref.specs.declared.reference.Ref.{Ref}
use Rattle.h2_tree.specs.OtherTrees.{KeepsOtherLeaves}
use Rattle.h2_worked_rows.specs.Refs.{block_at, fifth_leaf}
use Rattle.h2_worked_rows.specs.Trees.{is_fifth, two_roots}
use Rattle.h2_worked_rows.specs.Views.{new_block, with_new_leaf}
use Rattle.h2_worked_rows.proofs.Roots.{no_third}
use Rattle.h2_worked_rows.proofs.views.worked_leaves_law.Goals as goal

kept : KeepsOtherLeaves two_roots with_new_leaf 1
kept zero zero r stands other read leaf free = absurd (free (subst (λ (q : Ref). is_fifth 1 0 q.key ≡ true) (same_Some fifth_leaf r read) refl))
kept zero (suc i) r stands other read leaf free = absurd (none-some r read)
kept (suc zero) i r stands other read leaf free = absurd (other refl)
kept (suc (suc m)) i r stands other read leaf free = absurd (no_third m stands)

one_not_zero : ◌≡◌ {A = ℕ} 1 0 → ⊥
one_not_zero e = absurd (omega (arith, e))

places_differ : ◌≡◌ {A = ℕ} 4227072 4194304 → ⊥
places_differ e = absurd (omega (arith, e))

pub returns : goal.returns
returns c = record {
  kept = kept;
  not_kept = λ h. places_differ (ap (λ (q : Ref). q.place) (same_Some new_block (block_at 0) (h 1 0 (block_at 0) refl one_not_zero refl refl (λ e. true≢false (sym e)))));
}
