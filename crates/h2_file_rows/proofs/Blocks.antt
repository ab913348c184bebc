-- References of blocks that are judged one by one.
use Rattle.std.proofs.Common.{◌≡◌, ℕ, ◌+◌, ◌<◌, ◌≤◌, suc, zero, arith, refl, sym, ◌∙◌, List, [], ◌∷◌, Some, length, subst, inl, inr, slice_get, slice_index_or}
use Rattle.h2_ref.specs.declared.reference.Ref.{Ref}
use Rattle.h2_set.specs.ChangeLaws.{same_or_not}
use Rattle.h2_file.specs.Linking.{FollowFrom, IsRun, blocks, behind_zero}

-- what stands at a place
pub at_place : (rs : List Ref) (i : ℕ) (d : Ref) → i < length rs → slice_get rs i ≡ Some (slice_index_or rs i d)
at_place [] i d within = absurd (omega (arith, within))
at_place (r ∷ rs) zero d within = refl
at_place (r ∷ rs) (suc i) d within = at_place rs i d (omega (arith, within))

-- what holds of each reference before a place and of the one there holds of each up to it
pub one_more : (P : Ref → Type 0) (rs : List Ref) (n : ℕ) (q : Ref) → ((j : ℕ) (r : Ref) → j < n → slice_get rs j ≡ Some r → P r) → slice_get rs n ≡ Some q → P q → (j : ℕ) (r : Ref) → j < n + 1 → slice_get rs j ≡ Some r → P r
one_more P rs n q before at_n here j r lt read = elim (same_or_not j n) as (λ _. P r) [
  | inr ne ↦ before j r (less ne) read
  | inl e ↦ let it : q ≡ r = one_of q r (sym at_n ∙ subst (λ z. slice_get rs z ≡ Some r) e read) in subst P it here
]
  where
    one_of : (a b : Ref) → Some a ≡ Some b → a ≡ b
    one_of a b e = cc

    less : (j ≡ n → ⊥) → j < n
    less ne = omega (arith, lt, ne)

pub none_run : (rs : List Ref) → length rs ≡ 0 → IsRun rs
none_run [] e = blocks 0 tt (omega arith)
none_run (r ∷ rs) e = absurd (omega (arith, e))

pub behind : (rs tail : List Ref) (r : Ref) (first : ℕ) → rs ≡ r ∷ tail → r.key ≡ 0 → 0 < first → FollowFrom first tail → length tail ≤ 65 → IsRun rs
behind rs tail r first is at_zero some follow few = subst IsRun (sym is) (behind_zero first at_zero some follow few)
