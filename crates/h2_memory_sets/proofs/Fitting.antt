-- Sets that are judged reference by reference.
use Rattle.std.proofs.Common.{◌≡◌, ℕ, ◌+◌, ◌<◌, arith, refl, sym, ◌∙◌, List, [], ◌∷◌, Some, subst, inl, inr, slice_get, suc}
use Rattle.std.specs.Prelude.{All}
use Rattle.std.proofs.lemmas.List.Elements.{All-nil, All-cons, All-get_or}
use Rattle.std.proofs.lemmas.Option.{get_or_from_slice_get, slice_get_within}
use Rattle.std.proofs.lemmas.Bool.{cases_lt}
use Rattle.h2_ref.specs.declared.reference.Ref.{Ref}
use Rattle.h2_set.specs.ChangeLaws.{same_or_not}

pub one_more : (P : Ref → Type 0) (rs : List Ref) (n : ℕ) → ((j : ℕ) (r : Ref) → j < n → slice_get rs j ≡ Some r → P r) → (q : Ref) → slice_get rs n ≡ Some q → P q → (j : ℕ) (r : Ref) → j < n + 1 → slice_get rs j ≡ Some r → P r
one_more P rs n before q at_n fits j r lt read = elim (same_or_not j n) as (λ _. P r) [
  | inr ne ↦ before j r (less j ne lt) read
  | inl e ↦ let it : q ≡ r = one_of q r (sym at_n ∙ subst (λ z. slice_get rs z ≡ Some r) e read) in subst P it fits
]
  where
    one_of : (a b : Ref) → Some a ≡ Some b → a ≡ b
    one_of a b e = cc

    less : (j : ℕ) → (j ≡ n → ⊥) → j < n + 1 → j < n
    less j ne lt = elim (cases_lt j n) as (λ _. j < n) [
      | inl it ↦ it
      | inr ge ↦ absurd (ne (omega (arith, lt, ge)))
    ]

-- a list of which each that is read passes
pub all_read : (P : Ref → Type 0) (rs : List Ref) → ((i : ℕ) (r : Ref) → slice_get rs i ≡ Some r → P r) → All P rs
all_read P [] each = All-nil P
all_read P (r ∷ rs) each = All-cons P r rs (each 0 r refl) (all_read P rs (λ i q read. each (suc i) q read))

pub read_all : (P : Ref → Type 0) (rs : List Ref) → All P rs → (i : ℕ) (r : Ref) → slice_get rs i ≡ Some r → P r
read_all P rs all i r read = subst P (get_or_from_slice_get rs i r r read) (All-get_or P rs i r (slice_get_within rs i r read) all)
