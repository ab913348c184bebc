use Rattle.std.proofs.Common.{◌≡◌, ℕ, true, [], ◌∷◌, Some, arith, sym, subst, refl, zero, suc, slice_get, true≢false}
use Rattle.std.proofs.lemmas.Option.{none-some, same_Some}
use Rattle.h2_ref.specs.declared.reference.Ref.{Ref}
use Rattle.h2_set.specs.Ranges.{lies}
use Rattle.h2_worked_rows.specs.Refs.{block_at}
use Rattle.h2_worked_rows.proofs.ranges.worked_ranges_law.Goals as goal

in_both : (i : ℕ) (r : Ref) → slice_get (block_at 0 ∷ block_at 16384 ∷ []) i ≡ Some r → lies 0 15 r ≡ true
in_both zero r e = subst (λ (q : Ref). lies 0 15 q ≡ true) (same_Some (block_at 0) r e) refl
in_both (suc zero) r e = subst (λ (q : Ref). lies 0 15 q ≡ true) (same_Some (block_at 16384) r e) refl
in_both (suc (suc i)) r e = absurd (none-some r e)

pub returns : goal.returns
returns c = record {
  both = record { aligned = refl; all = in_both };
  none = record { aligned = refl; all = λ i r e. absurd (none-some r e) };
  too_short = λ h. true≢false (sym (h.all 1 (block_at 16384) refl));
  not_aligned = λ h. absurd (let e : 16384 ≡ 0 = h.aligned in omega arith);
}
