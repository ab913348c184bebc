-- A test of every number below an end, by computing it.
use Rattle.std.proofs.Common.{◌≡◌, ◌⊎◌, ◌<◌, ℕ, zero, suc, Bool, true, false, ◌&&◌, refl, inl, inr, arith}
use Rattle.std.proofs.lemmas.Bool.{cases_eq}

-- the test holds of each number below the end
abbrev pub all_below : ℕ → (ℕ → Bool) → Bool
all_below zero t = true
all_below (suc n) t = t n && all_below n t

both : (a b : Bool) → (a && b) ≡ true → (a ≡ true) × (b ≡ true)
both true b e = (refl, e)
both false b e = let clash : ⊥ = cc in absurd clash

pub below-at : (n : ℕ) (t : ℕ → Bool) → all_below n t ≡ true → (k : ℕ) → k < n → t k ≡ true
below-at zero t e k lt = absurd (omega arith)
below-at (suc n) t e k lt = split (below-at n t ((both (t n) (all_below n t) e).1) k) (cases_eq k n)
  where
    split : (k < n → t k ≡ true) → (k ≡ n) ⊎ (k ≡ n → ⊥) → t k ≡ true
    split rest (inl here) = rw here ((both (t n) (all_below n t) e).0)
    split rest (inr ne) = rest (omega arith)

-- a bit is 0 or 1
pub bit_cases : (a : ℕ) → a < 2 → (a ≡ 0) ⊎ (a ≡ 1)
bit_cases zero lt = inl refl
bit_cases (suc zero) lt = inr refl
bit_cases (suc (suc n)) lt = absurd (omega arith)

-- what holds of each two bits
pub two_bits : (P : ℕ → ℕ → Type 0) → P 0 0 → P 0 1 → P 1 0 → P 1 1 → (a b : ℕ) → a < 2 → b < 2 → P a b
two_bits P e f g h a b la lb = split (bit_cases a la) (bit_cases b lb)
  where
    split : (a ≡ 0) ⊎ (a ≡ 1) → (b ≡ 0) ⊎ (b ≡ 1) → P a b
    split (inl x) (inl y) = rw (x, y) e
    split (inl x) (inr y) = rw (x, y) f
    split (inr x) (inl y) = rw (x, y) g
    split (inr x) (inr y) = rw (x, y) h
