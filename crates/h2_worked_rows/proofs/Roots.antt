-- What belongs to what in the forest of two trees.
use Rattle.std.proofs.Common.{◌≡◌, ◌⊎◌, ℕ, suc, Bool, true, false, ◌&&◌, nat_eq, nat_lt, arith, refl, true≢false, sym, ◌∙◌, subst, inl, inr}
use Rattle.std.proofs.lemmas.Bool.{eqb-true}
use Rattle.std.proofs.lemmas.Bool.Decides.{nat_tests}
use Rattle.h2_set.specs.Forest.{IsRootOf}
use Rattle.h2_worked_rows.specs.Trees.{is_fifth, two_roots}

never : (b : Bool) → (b && false) ≡ true → ⊥
never true e = true≢false (sym e)
never false e = true≢false (sym e)

-- nothing belongs to the leaf of inode 6
pub none_sixth : (m : ℕ) → is_fifth m 0 6 ≡ true → ⊥
none_sixth m e = never (nat_eq m 1) e

both : (a b c : Bool) → (a && (b && c)) ≡ true → (a ≡ true) × (b ≡ true) × (c ≡ true)
both true true true e = (refl, refl, refl)
both true true false e = absurd (true≢false (sym e))
both true false c e = absurd (true≢false (sym e))
both false b c e = absurd (true≢false (sym e))

-- what belongs to a leaf is root 1, and the leaf that of inode 5
pub fifth_is : (m top key : ℕ) → is_fifth m top key ≡ true → (m ≡ 1) × (top ≡ 0) × (key ≡ 5)
fifth_is m top key e =
    let h = both (nat_eq m 1) (nat_eq top 0) (nat_eq key 5) e in
    (eqb-true m 1 h.0, eqb-true top 0 h.1, eqb-true key 5 h.2)

belongs_there : (t k : ℕ) → (t ≡ 0) × (k ≡ 5) → is_fifth 1 t k ≡ true
belongs_there t k e = subst (λ x. is_fifth 1 x k ≡ true) (sym e.0) (subst (λ y. is_fifth 1 0 y ≡ true) (sym e.1) refl)

forth : (t k : ℕ) → is_fifth 1 t k ≡ true → ((t ≡ 0) × (k ≡ 5)) ⊎ (is_fifth 0 t k ≡ true)
forth t k e = let is = fifth_is 1 t k e in inl (is.1, is.2)

back : (t k : ℕ) → ((t ≡ 0) × (k ≡ 5)) ⊎ (is_fifth 0 t k ≡ true) → is_fifth 1 t k ≡ true
back t k (inl e) = belongs_there t k e
back t k (inr e) = absurd (true≢false (sym e))

-- root 1 is that of inode 5
pub fifth_root : IsRootOf two_roots 0 5 1
fifth_root = record { stands = refl; root = refl; belongs = λ t k. (forth t k, back t k) }

-- no third root stands
pub no_third : (m : ℕ) → nat_lt (suc (suc m)) 2 ≡ true → ⊥
no_third m stands =
    let away : nat_lt (suc (suc m)) 2 ≡ false = grind (arith, nat_tests) in
    true≢false (sym stands ∙ away)
