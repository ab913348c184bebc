-- The first place that passes a test.
use Rattle.std.specs.Prelude.{◌≡◌, ◌<◌, ℕ, zero, suc, Bool, true, false, Option, Some, None, refl, if◌then◌else◌}
use Rattle.std.proofs.Common.{ap, sym, ◌∙◌, arith, inl, inr}
use Rattle.std.proofs.lemmas.Bool.{cases_lt, cases_Bool, cond-true, cond-false}
use Rattle.std.proofs.lemmas.Option.{none-some}
use Rattle.h2_ref.specs.Fault.{first_place, or_else}

or_else-none : (o p : Option ℕ) → or_else o p ≡ None → (o ≡ None) × (p ≡ None)
or_else-none None p e = (refl, e)
or_else-none (Some n) p e = absurd (none-some n (sym e))

-- there is no place below 0
pub first_place-zero : (test : ℕ → Bool) → first_place test zero ≡ None
unfolding first_place
first_place-zero test = refl

-- no place so far, and this one doesn't pass
pub first_place-none : (test : ℕ → Bool) (n : ℕ) → first_place test n ≡ None → test n ≡ false → first_place test (suc n) ≡ None
unfolding first_place
first_place-none test n none fails = ap (λ o. or_else o (if test n then Some n else None)) none ∙ cond-false (test n) (Some n) None fails

-- no place so far, and this one passes
first_place-here : (test : ℕ → Bool) (n : ℕ) → first_place test n ≡ None → test n ≡ true → first_place test (suc n) ≡ Some n
unfolding first_place
first_place-here test n none passes = ap (λ o. or_else o (if test n then Some n else None)) none ∙ cond-true (test n) (Some n) None passes

-- the first place stays the first
first_place-stays : (test : ℕ → Bool) (n k : ℕ) → first_place test n ≡ Some k → first_place test (suc n) ≡ Some k
unfolding first_place
first_place-stays test n k found = ap (λ o. or_else o (if test n then Some n else None)) found

-- the first place of more places
pub first_place-found : (test : ℕ → Bool) (k n : ℕ) → first_place test k ≡ None → test k ≡ true → k < n → first_place test n ≡ Some k
first_place-found test k zero none passes lt = absurd (omega arith)
first_place-found test k (suc n) none passes lt = elim (cases_lt k n) [
  | inl below ↦ first_place-stays test n k (first_place-found test k n none passes below)
  | inr last ↦ let e : n ≡ k = omega arith in rw e (first_place-here test k none passes)
]

-- where none passes, there is no first place
pub first_place-of_none : (test : ℕ → Bool) (n : ℕ) → ((k : ℕ) → k < n → test k ≡ false) → first_place test n ≡ None
first_place-of_none test zero fails = first_place-zero test
first_place-of_none test (suc n) fails = first_place-none test n (first_place-of_none test n (λ k lt. fails k (omega arith))) (fails n (omega arith))

-- where there is no first place, there is none before the last, and the last doesn't pass
none_before : (test : ℕ → Bool) (n : ℕ) → first_place test (suc n) ≡ None → (first_place test n ≡ None) × ((if test n then Some n else None) ≡ None)
unfolding first_place
none_before test n none = or_else-none (first_place test n) (if test n then Some n else None) none

-- where there is no first place, none passes
pub none_passes : (test : ℕ → Bool) (n : ℕ) → first_place test n ≡ None → (k : ℕ) → k < n → test k ≡ false
none_passes test zero none k lt = absurd (omega arith)
none_passes test (suc n) none k lt =
    let before = none_before test n none in
    elim (cases_lt k n) [
      | inl below ↦ none_passes test n before.0 k below
      | inr last ↦ let e : k ≡ n = omega arith in rw e (elim (cases_Bool (test n)) [
        | inl passes ↦ absurd (none-some n (sym before.1 ∙ cond-true (test n) (Some n) None passes))
        | inr fails ↦ fails
      ])
    ]
