-- References that may follow one another.
use Rattle.std.proofs.Common.{◌≡◌, ◌<◌, ◌≤◌, ◌+◌, ◌-◌, ℕ, List, length, slice_index_or, ap, ◌∙◌, subst, arith, inl, inr}
use Rattle.std.specs.List.{AllAdjacentBelow}
use Rattle.std.proofs.lemmas.Bool.{cases_lt}
use Rattle.std.proofs.lemmas.List.{get_or_default}
use Rattle.h2_ref.specs.declared.reference.Ref.{Ref}
use Rattle.h2_ref.specs.Set.{MayFollow}

-- one reference more follows the last
pub follow_more : (refs : List Ref) (i : ℕ) (a b : Ref) → 1 ≤ i → i < length refs → AllAdjacentBelow MayFollow refs i
    → MayFollow (slice_index_or refs (i - 1) a) (slice_index_or refs i b) → AllAdjacentBelow MayFollow refs (i + 1)
follow_more refs i a b ge inside so_far last k d lt = elim (cases_lt (k + 1) i) [
  | inl below ↦ so_far k d below
  | inr here ↦
      let at : i - 1 ≡ k = omega arith in
      let next : i ≡ k + 1 = omega arith in
      let before : i - 1 < length refs = omega arith in
      let first = get_or_default refs (i - 1) a d before ∙ ap (λ n. slice_index_or refs n d) at in
      let second = get_or_default refs i b d inside ∙ ap (λ n. slice_index_or refs n d) next in
      subst (λ r. MayFollow r (slice_index_or refs (k + 1) d)) first (subst (λ s. MayFollow (slice_index_or refs (i - 1) a) s) second last)
]
