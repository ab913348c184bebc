-- What holds of the references of a set, one after the other.
use Rattle.std.specs.Prelude.{◌≡◌, ◌<◌, ℕ, ◌+◌, List, Some, slice_get, slice_index_or}
use Rattle.std.proofs.Common.{sym, arith, inl, inr, subst}
use Rattle.std.proofs.lemmas.Bool.{cases_lt}
use Rattle.std.proofs.lemmas.Option.{get_or_from_slice_get}
use Rattle.h2_ref.specs.declared.reference.Ref.{Ref}

-- it holds of one more
pub one_more : (P : Ref → Type 0) (rs : List Ref) (n : ℕ) (q : Ref) → ((k : ℕ) (d : Ref) → k < n → P (slice_index_or rs k d)) → slice_get rs n ≡ Some q → P q
    → (k : ℕ) (d : Ref) → k < n + 1 → P (slice_index_or rs k d)
one_more P rs n q before read this k d less = elim (cases_lt k n) as (λ _. P (slice_index_or rs k d)) [
  | inl lt ↦ before k d lt
  | inr ge ↦ let e : k ≡ n = omega (arith, less, ge) in subst (λ j. P (slice_index_or rs j d)) (sym e) (subst P (sym (get_or_from_slice_get rs n q d read)) this)
]
