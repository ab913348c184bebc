-- Bytes of four codes or of eight flags, each by computing all of them.
use Rattle.std.proofs.Common.{◌≡◌, ◌⊎◌, ◌<◌, ℕ, zero, suc, ◌+◌, ◌*◌, ◌-◌, ◌/◌, ◌%◌, ◌^◌, ◌==◌, bit_and, bit_or, Bool, true, false, cond, set, [], ◌∷◌, w8, refl, ap, ◌∙◌, inl, inr, arith}
use Rattle.std.specs.Int.{bit_at}
use Rattle.std.proofs.lemmas.Bool.{eqb-true, eq-eqb, ne_eqb, cases_eq}
use Rattle.std.proofs.lemmas.Nat.{and_le_r}
use Rattle.std.proofs.lemmas.Nat.Bits.{bit_at_set_same, bit_at_set_other}
use Rattle.h2_codes.specs.declared.code.Code.{Code}
use Rattle.h2_codes.specs.declared.code.Code.TheVariants.{Free, Reserved, Staged, Used}
use Rattle.h2_codes.specs.Layout.{code_number}
use Rattle.h2_codes.specs.Packed.{code_of, word_code, flag_of, byte_flag, byte_codes, byte_flags, IsSpread}
use Rattle.h2_codes.proofs.Cases.{all_below, below-at}

-- a code put into a byte
abbrev pub put_bits : ℕ → ℕ → ℕ → ℕ
put_bits b k n = bit_or (bit_and b (255 - 3 * 2 ^ (2 * k) % 256)) (n * 2 ^ (2 * k) % 256)

abbrev put_test : ℕ → ℕ → ℕ → ℕ → Bool
put_test k n b i = (put_bits b k n / 2 ^ (2 * i) % 4) == (cond (i == k) n (b / 2 ^ (2 * i) % 4))

put_all : all_below 4 (λ k. all_below 4 (λ n. all_below 256 (λ b. all_below 4 (put_test k n b)))) ≡ true
put_all = refl

pub put_field : (b k n i : ℕ) → b < 256 → k < 4 → n < 4 → i < 4 → put_bits b k n / 2 ^ (2 * i) % 4 ≡ cond (i == k) n (b / 2 ^ (2 * i) % 4)
put_field b k n i lb lk ln li = eqb-true (put_bits b k n / 2 ^ (2 * i) % 4) (cond (i == k) n (b / 2 ^ (2 * i) % 4))
    (below-at 4 (put_test k n b) (below-at 256 (λ b. all_below 4 (put_test k n b)) (below-at 4 (λ n. all_below 256 (λ b. all_below 4 (put_test k n b))) (below-at 4 (λ k. all_below 4 (λ n. all_below 256 (λ b. all_below 4 (put_test k n b)))) put_all k lk) n ln) b lb) i li)

pub number_fits : (x : Code) → code_number x < 4
number_fits Free = omega arith
number_fits Reserved = omega arith
number_fits Staged = omega arith
number_fits Used = omega arith

pub code_of-number : (x : Code) → code_of (code_number x) ≡ x
code_of-number Free = refl
code_of-number Reserved = refl
code_of-number Staged = refl
code_of-number Used = refl

either : (t : Bool) (x : Code) (m : ℕ) → code_of (cond t (code_number x) m) ≡ cond t x (code_of m)
either true x m = code_of-number x
either false x m = refl

-- four codes that are the same one by one
codes4 : (f g : ℕ → Code) → ((i : ℕ) → i < 4 → f i ≡ g i) → f 0 ∷ f 1 ∷ f 2 ∷ f 3 ∷ [] ≡ g 0 ∷ g 1 ∷ g 2 ∷ g 3 ∷ []
codes4 f g h = rw (h 0 (omega arith), h 1 (omega arith), h 2 (omega arith), h 3 (omega arith)) refl

set4 : (f : ℕ → Code) (k : ℕ) (x : Code) → k < 4 → cond (0 == k) x (f 0) ∷ cond (1 == k) x (f 1) ∷ cond (2 == k) x (f 2) ∷ cond (3 == k) x (f 3) ∷ [] ≡ set (f 0 ∷ f 1 ∷ f 2 ∷ f 3 ∷ []) k x
set4 f zero x lt = refl
set4 f (suc zero) x lt = refl
set4 f (suc (suc zero)) x lt = refl
set4 f (suc (suc (suc zero))) x lt = refl
set4 f (suc (suc (suc (suc k)))) x lt = absurd (omega arith)

pub put_code : (b k : ℕ) (x : Code) → b < 256 → k < 4 → byte_codes (put_bits b k (code_number x)) ≡ set (byte_codes b) k x
put_code b k x lb lk =
    codes4 (word_code (put_bits b k (code_number x))) (λ i. cond (i == k) x (word_code b i)) (λ i li. ap code_of (put_field b k (code_number x) i lb lk (number_fits x) li) ∙ either (i == k) x (b / 2 ^ (2 * i) % 4))
    ∙ set4 (word_code b) k x lk

-- a flag put into a byte
abbrev pub put_flag_bits : ℕ → ℕ → ℕ
put_flag_bits b k = bit_or b (1 * 2 ^ k % 256)

flags8 : (f g : ℕ → Bool) → ((i : ℕ) → i < 8 → f i ≡ g i) → f 0 ∷ f 1 ∷ f 2 ∷ f 3 ∷ f 4 ∷ f 5 ∷ f 6 ∷ f 7 ∷ [] ≡ g 0 ∷ g 1 ∷ g 2 ∷ g 3 ∷ g 4 ∷ g 5 ∷ g 6 ∷ g 7 ∷ []
flags8 f g h = rw (h 0 (omega arith), h 1 (omega arith), h 2 (omega arith), h 3 (omega arith), h 4 (omega arith), h 5 (omega arith), h 6 (omega arith), h 7 (omega arith)) refl

set8 : (f : ℕ → Bool) (k : ℕ) (x : Bool) → k < 8 → cond (0 == k) x (f 0) ∷ cond (1 == k) x (f 1) ∷ cond (2 == k) x (f 2) ∷ cond (3 == k) x (f 3) ∷ cond (4 == k) x (f 4) ∷ cond (5 == k) x (f 5) ∷ cond (6 == k) x (f 6) ∷ cond (7 == k) x (f 7) ∷ [] ≡ set (f 0 ∷ f 1 ∷ f 2 ∷ f 3 ∷ f 4 ∷ f 5 ∷ f 6 ∷ f 7 ∷ []) k x
set8 f zero x lt = refl
set8 f (suc zero) x lt = refl
set8 f (suc (suc zero)) x lt = refl
set8 f (suc (suc (suc zero))) x lt = refl
set8 f (suc (suc (suc (suc zero)))) x lt = refl
set8 f (suc (suc (suc (suc (suc zero))))) x lt = refl
set8 f (suc (suc (suc (suc (suc (suc zero)))))) x lt = refl
set8 f (suc (suc (suc (suc (suc (suc (suc zero))))))) x lt = refl
set8 f (suc (suc (suc (suc (suc (suc (suc (suc k)))))))) x lt = absurd (omega arith)

set_bit : (b k i : ℕ) → k < 8 → i < 8 → (i ≡ k) ⊎ (i ≡ k → ⊥) → byte_flag (put_flag_bits b k) i ≡ cond (i == k) true (byte_flag b i)
set_bit b k i lk li (inl same) = rw (same, eq-eqb k k refl) (ap flag_of (bit_at_set_same w8 b k lk))
set_bit b k i lk li (inr ne) = rw (ne_eqb i k ne) (ap flag_of (bit_at_set_other w8 b k lk i ne))

pub put_flag : (b k : ℕ) → k < 8 → byte_flags (put_flag_bits b k) ≡ set (byte_flags b) k true
put_flag b k lk =
    flags8 (byte_flag (put_flag_bits b k)) (λ i. cond (i == k) true (byte_flag b i)) (λ i li. set_bit b k i lk li (cases_eq i k))
    ∙ set8 (byte_flag b) k true lk

-- the flags of a byte, spread
abbrev pub halves_of : ℕ → ℕ
halves_of b = bit_and (bit_or b (b * 16 % 18446744073709551616)) 3855

abbrev pub pairs_of : ℕ → ℕ
pairs_of h = bit_and (bit_or h (h * 4 % 18446744073709551616)) 13107

abbrev pub singles_of : ℕ → ℕ
singles_of p = bit_and (bit_or p (p * 2 % 18446744073709551616)) 21845

abbrev pub spread_of : ℕ → ℕ
spread_of b = singles_of (pairs_of (halves_of b))

abbrev lower_test : ℕ → ℕ → Bool
lower_test b k = bit_at (spread_of b) (2 * k) == bit_at b k

abbrev upper_test : ℕ → ℕ → Bool
upper_test b k = bit_at (spread_of b) (2 * k + 1) == 0

lower_all : all_below 256 (λ b. all_below 8 (lower_test b)) ≡ true
lower_all = refl

upper_all : all_below 256 (λ b. all_below 8 (upper_test b)) ≡ true
upper_all = refl

pub spread_is : (b : ℕ) → b < 256 → IsSpread b (spread_of b)
spread_is b lb = record {
  lower = λ k lk. eqb-true (bit_at (spread_of b) (2 * k)) (bit_at b k) (below-at 8 (lower_test b) (below-at 256 (λ b. all_below 8 (lower_test b)) lower_all b lb) k lk);
  upper = λ k lk. eqb-true (bit_at (spread_of b) (2 * k + 1)) 0 (below-at 8 (upper_test b) (below-at 256 (λ b. all_below 8 (upper_test b)) upper_all b lb) k lk);
  fits = let le = and_le_r (bit_or (pairs_of (halves_of b)) (pairs_of (halves_of b) * 2 % 18446744073709551616)) 21845 in omega (arith, le);
}
