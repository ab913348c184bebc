-- A mark set in its word.
use Rattle.std.specs.Prelude.{◌≡◌, ◌≢◌, ◌<◌, ℕ, ◌*◌, ◌/◌, ◌%◌, ◌^◌, List, length, slice_index, slice_set, bit_or, replicate}
use Rattle.std.specs.Int.{bit_at, w64}
use Rattle.std.proofs.Common.{ap, sym, ◌∙◌, refl, arith, inl, inr, get_or-set_other, get_or-set_same}
use Rattle.std.proofs.lemmas.Bool.{cases_eq, cases_lt}
use Rattle.std.proofs.lemmas.Nat.Bits.{bit_at_set_same, bit_at_set_other, bit_at-zero}
use Rattle.std.proofs.lemmas.List.{get_or-replicate, get_or_past, length-replicate}
use Rattle.h2_dirkey.specs.Marks.{IsMarked, MarksOne}

-- the word with the bit
abbrev set_bit : ℕ → ℕ → ℕ
set_bit w i = bit_or w (1 * 2 ^ i % 2 ^ 64)

-- the words with the bit
abbrev set_mark : ℕ → List ℕ → List ℕ
set_mark c words = slice_set words (c / 64) (set_bit (slice_index words (c / 64)) (c % 64))

-- its word has the bit
word_is : (c k : ℕ) (words : List ℕ) → c / 64 < length words → k / 64 ≡ c / 64
    → slice_index (set_mark c words) (k / 64) ≡ set_bit (slice_index words (k / 64)) (c % 64)
word_is c k words inside same = rw same (get_or-set_same words (c / 64) (set_bit (slice_index words (c / 64)) (c % 64)) 0 inside)

-- another bit stays
bit_stays : (c k : ℕ) (words : List ℕ) → c / 64 < length words → k ≢ c
    → bit_at (slice_index (set_mark c words) (k / 64)) (k % 64) ≡ bit_at (slice_index words (k / 64)) (k % 64)
bit_stays c k words inside ne = elim (cases_eq (k / 64) (c / 64)) [
  | inl same ↦
      let other : k % 64 ≢ c % 64 = omega arith in
      ap (λ w. bit_at w (k % 64)) (word_is c k words inside same) ∙ bit_at_set_other w64 (slice_index words (k / 64)) (c % 64) (omega arith) (k % 64) other
  | inr differ ↦ ap (λ w. bit_at w (k % 64)) (get_or-set_other words (c / 64) (k / 64) (set_bit (slice_index words (c / 64)) (c % 64)) 0 differ)
]

-- one bit is set in a word, and the others stay
pub one_marked : (c : ℕ) (words : List ℕ) → c / 64 < length words → MarksOne c words (set_mark c words)
one_marked c words inside = record {
  marked = same_set;
  kept = λ k old. elim (cases_eq k c) [
    | inl is ↦ rw is same_set
    | inr ne ↦ bit_stays c k words inside ne ∙ old
  ];
  others = λ k ne new. sym (bit_stays c k words inside ne) ∙ new;
}
  where
    same_set : IsMarked (set_mark c words) c
    same_set = ap (λ w. bit_at w (c % 64)) (word_is c c words inside refl) ∙ bit_at_set_same w64 (slice_index words (c / 64)) (c % 64) (omega arith)

-- zeros stand at each place of zeros, and past their end
pub zeros_at : (n k : ℕ) → slice_index (replicate n 0) k ≡ 0
zeros_at n k = elim (cases_lt k n) [
  | inl lt ↦ get_or-replicate n k 0 0 lt
  | inr ge ↦ get_or_past (replicate n 0) k 0 (omega (arith, length-replicate {A = ℕ} n 0))
]

-- no mark is set in zeros
pub none_marked : (n k : ℕ) → IsMarked (replicate n 0) k → ⊥
none_marked n k marked =
    let zero_bit : bit_at (slice_index (replicate n 0) (k / 64)) (k % 64) ≡ 0 = ap (λ w. bit_at w (k % 64)) (zeros_at n (k / 64)) ∙ bit_at-zero (k % 64) in
    omega arith
