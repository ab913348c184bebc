-- How the number of free chunks changes with the codes.
use Rattle.std.proofs.Common.{ℕ, zero, suc, ◌≡◌, ◌≢◌, ◌⊎◌, ◌+◌, ◌≤◌, ◌<◌, refl, sym, ap, ◌∙◌, inl, inr, arith}
use Rattle.std.proofs.lemmas.Bool.{cases_eq}
use Rattle.h2_codes.specs.declared.code.Code.{Code}
use Rattle.h2_codes.specs.declared.code.Code.TheVariants.{Free, Reserved, Staged, Used}
use Rattle.h2_codes.specs.Codes.{tally}
use Rattle.h2_codes.specs.Free.{free_below}

-- a code that isn't that of a free chunk counts nothing
pub not_free : (code : Code) → code ≢ Free → tally Free code ≡ 0
not_free Free ne = absurd (ne refl)
not_free Reserved ne = refl
not_free Staged ne = refl
not_free Used ne = refl

-- codes that are free at the same chunks give one count
pub free_same : (f g : ℕ → Code) (n : ℕ) → ((c : ℕ) → c < n → tally Free (g c) ≡ tally Free (f c)) → free_below g n ≡ free_below f n
unfolding free_below
free_same f g zero e = refl
free_same f g (suc n) e =
    let rest : free_below g n ≡ free_below f n = free_same f g n (λ c lt. e c (omega arith)) in
    let here : tally Free (g n) ≡ tally Free (f n) = e n (omega arith) in
    omega arith

-- one chunk that was free isn't
pub free_taken : (f g : ℕ → Code) (c : ℕ) → f c ≡ Free → g c ≡ Used → ((d : ℕ) → d ≢ c → g d ≡ f d) → (n : ℕ) → c < n → free_below f n ≡ free_below g n + 1
unfolding free_below
free_taken f g c was now others zero lt = absurd (omega arith)
free_taken f g c was now others (suc n) lt = split (cases_eq c n) (λ below. free_taken f g c was now others n below)
  where
    split : (c ≡ n) ⊎ (c ≡ n → ⊥) → (c < n → free_below f n ≡ free_below g n + 1) → tally Free (f n) + free_below f n ≡ tally Free (g n) + free_below g n + 1
    split (inl e) lower =
        let rest : free_below g n ≡ free_below f n = free_same f g n (λ d below. ap (tally Free) (others d (λ same. omega arith))) in
        let old : tally Free (f n) ≡ 1 = ap (tally Free) (ap f (sym e) ∙ was) in
        let new : tally Free (g n) ≡ 0 = ap (tally Free) (ap g (sym e) ∙ now) in
        omega arith
    split (inr ne) lower =
        let rest : free_below f n ≡ free_below g n + 1 = lower (omega arith) in
        let here : tally Free (g n) ≡ tally Free (f n) = ap (tally Free) (others n (λ e. ne (sym e))) in
        omega arith

-- the count where one code changes
pub free_changed : (f g : ℕ → Code) (c : ℕ) → ((d : ℕ) → d ≢ c → g d ≡ f d) → (n : ℕ) → c < n → free_below g n + tally Free (f c) ≡ free_below f n + tally Free (g c)
unfolding free_below
free_changed f g c others zero lt = absurd (omega arith)
free_changed f g c others (suc n) lt = split (cases_eq c n) (λ below. free_changed f g c others n below)
  where
    split : (c ≡ n) ⊎ (c ≡ n → ⊥) → (c < n → free_below g n + tally Free (f c) ≡ free_below f n + tally Free (g c)) → tally Free (g n) + free_below g n + tally Free (f c) ≡ tally Free (f n) + free_below f n + tally Free (g c)
    split (inl e) lower =
        let rest : free_below g n ≡ free_below f n = free_same f g n (λ d below. ap (tally Free) (others d (λ same. omega arith))) in
        let old : tally Free (f n) ≡ tally Free (f c) = ap (λ (d : ℕ). tally Free (f d)) (sym e) in
        let new : tally Free (g n) ≡ tally Free (g c) = ap (λ (d : ℕ). tally Free (g d)) (sym e) in
        omega arith
    split (inr ne) lower =
        let rest : free_below g n + tally Free (f c) ≡ free_below f n + tally Free (g c) = lower (omega arith) in
        let here : tally Free (g n) ≡ tally Free (f n) = ap (tally Free) (others n (λ e. ne (sym e))) in
        omega arith

-- a free chunk is among those that are counted
pub free_has : (f : ℕ → Code) (c : ℕ) (n : ℕ) → c < n → tally Free (f c) ≤ free_below f n
unfolding free_below
free_has f c zero lt = absurd (omega arith)
free_has f c (suc n) lt = split (cases_eq c n) (λ below. free_has f c n below)
  where
    split : (c ≡ n) ⊎ (c ≡ n → ⊥) → (c < n → tally Free (f c) ≤ free_below f n) → tally Free (f c) ≤ tally Free (f n) + free_below f n
    split (inl e) lower = let same : tally Free (f c) ≡ tally Free (f n) = ap (λ (d : ℕ). tally Free (f d)) e in omega arith
    split (inr ne) lower = let rest : tally Free (f c) ≤ free_below f n = lower (omega arith) in omega arith
