-- How many chunks are free.
use Rattle.std.proofs.Common.{ℕ, zero, suc, ◌≡◌, ◌≢◌, ◌⊎◌, ◌+◌, ◌≤◌, ◌<◌, refl, sym, ap, ◌∙◌, inl, inr, arith}
use Rattle.std.proofs.lemmas.Bool.{cases_eq}
use Rattle.h2_codes.specs.declared.code.Code.{Code}
use Rattle.h2_codes.specs.declared.code.Code.TheVariants.{Free, Reserved, Staged, Used}
use Rattle.h2_codes.specs.Free.{free_below}
use Rattle.h2_codes.specs.Codes.{tally}

is_free_more : (a b : Code) → (a ≡ Free → b ≡ Free) → tally Free a ≤ tally Free b
is_free_more Free b h = let e : b ≡ Free = h refl in rw e (omega arith)
is_free_more Reserved b h = omega arith
is_free_more Staged b h = omega arith
is_free_more Used b h = omega arith

pub free_more : (f g : ℕ → Code) → ((c : ℕ) → f c ≡ Free → g c ≡ Free) → (n : ℕ) → free_below f n ≤ free_below g n
unfolding free_below
free_more f g h zero = omega arith
free_more f g h (suc n) = omega (arith, free_more f g h n, is_free_more (f n) (g n) (h n))

-- codes that agree give one count
pub free_same : (f g : ℕ → Code) (n : ℕ) → ((c : ℕ) → c < n → g c ≡ f c) → free_below g n ≡ free_below f n
unfolding free_below
free_same f g zero e = refl
free_same f g (suc n) e =
    let rest : free_below g n ≡ free_below f n = free_same f g n (λ c lt. e c (omega arith)) in
    let here : tally Free (g n) ≡ tally Free (f n) = ap (tally Free) (e n (omega arith)) in
    omega arith

-- one chunk that was free is not
pub free_taken : (f g : ℕ → Code) (c : ℕ) → f c ≡ Free → g c ≡ Used → ((d : ℕ) → d ≢ c → g d ≡ f d) → (n : ℕ) → c < n → suc (free_below g n) ≡ free_below f n
unfolding free_below
free_taken f g c was now others zero lt = absurd (omega arith)
free_taken f g c was now others (suc n) lt = split (cases_eq c n) (λ below. free_taken f g c was now others n below)
  where
    split : (c ≡ n) ⊎ (c ≡ n → ⊥) → (c < n → suc (free_below g n) ≡ free_below f n) → suc (tally Free (g n) + free_below g n) ≡ tally Free (f n) + free_below f n
    split (inl e) lower =
        let rest : free_below g n ≡ free_below f n = free_same f g n (λ d below. others d (λ same. omega arith)) in
        let old : tally Free (f n) ≡ 1 = ap (tally Free) (ap f (sym e) ∙ was) in
        let new : tally Free (g n) ≡ 0 = ap (tally Free) (ap g (sym e) ∙ now) in
        omega arith
    split (inr ne) lower =
        let rest : suc (free_below g n) ≡ free_below f n = lower (omega arith) in
        let here : tally Free (g n) ≡ tally Free (f n) = ap (tally Free) (others n (λ e. ne (sym e))) in
        omega arith
