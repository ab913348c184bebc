-- The bits of a word of 32 codes.
use Rattle.std.proofs.Common.{◌≡◌, ◌≢◌, ◌⊎◌, ◌<◌, ℕ, zero, suc, ◌+◌, ◌*◌, ◌-◌, ◌/◌, ◌%◌, ◌^◌, ◌==◌, min, max, bit_and, bit_or, count_ones, ◌≤◌, w64, refl, sym, ap, ◌∙◌, inl, inr, arith}
use Rattle.std.specs.Int.{bit_at, bit_not, trailing_zeros}
use Rattle.std.proofs.lemmas.Bool.{eqb-true, cases_lt}
use Rattle.std.proofs.lemmas.Nat.{shr-shr, and_le_l, and_le_r, or_lt, ones_cat, mod-pow-add, mod_below, pow_pos, shr_split}
use Rattle.std.proofs.lemmas.Nat.Bits.{bit_at-lt, bit_at_and, bit_at_or, bit_at_not, bit_at-suc, bit_at-zero, bit_at_cat_high, bit_at_cat_low, bit_at-trailing_zeros}
use Rattle.h2_codes.specs.declared.code.Code.{Code}
use Rattle.h2_codes.specs.declared.code.Code.TheVariants.{Free, Reserved, Staged, Used}
use Rattle.h2_codes.specs.Codes.{tally}
use Rattle.h2_codes.specs.Bulkfree.{swept_code, tally_unseen}
use Rattle.h2_codes.specs.Packed.{code_of, word_code, flag_of, sum_below, Marks, NoneFreeIn, IsFirstFree}
use Rattle.h2_codes.proofs.Counts.{tally_le}
use Rattle.h2_codes.proofs.Cases.{below-at, bit_cases, two_bits}

-- the lower bit of each code
abbrev pub low : ℕ
low = 6148914691236517205

pub field_bits : (w k : ℕ) → w / 2 ^ (2 * k) % 4 ≡ bit_at w (2 * k) + 2 * bit_at w (2 * k + 1)
field_bits w k =
    let e : w / 2 ^ (2 * k) / 2 ^ 1 ≡ w / 2 ^ (2 * k + 1) = shr-shr w (2 * k) 1 in
    omega (arith, e)

low_lower : (k : ℕ) → k < 32 → bit_at low (2 * k) ≡ 1
low_lower k lt = eqb-true (bit_at low (2 * k)) 1 (below-at 32 (λ i. bit_at low (2 * i) == 1) refl k lt)

low_upper : (k : ℕ) → k < 32 → bit_at low (2 * k + 1) ≡ 0
low_upper k lt = eqb-true (bit_at low (2 * k + 1)) 0 (below-at 32 (λ i. bit_at low (2 * i + 1) == 0) refl k lt)

-- what is masked has the lower bits alone
pub masked_lower : (w k : ℕ) → k < 32 → bit_at (bit_and w low) (2 * k) ≡ bit_at w (2 * k)
masked_lower w k lt =
    let e = bit_at_and w low (2 * k) in
    let one = low_lower k lt in
    let bit = bit_at-lt w (2 * k) in
    omega (arith, e, one, bit)

pub masked_upper : (w k : ℕ) → k < 32 → bit_at (bit_and w low) (2 * k + 1) ≡ 0
masked_upper w k lt =
    let e = bit_at_and w low (2 * k + 1) in
    let none = low_upper k lt in
    omega (arith, e, none)

-- the upper bits, moved to the lower ones
pub moved_lower : (w k : ℕ) → k < 32 → bit_at (bit_and (w / 2) low) (2 * k) ≡ bit_at w (2 * k + 1)
moved_lower w k lt =
    let e = masked_lower (w / 2) k lt in
    let f : bit_at w (suc (2 * k)) ≡ bit_at (w / 2) (2 * k) = bit_at-suc w (2 * k) in
    let g : suc (2 * k) ≡ 2 * k + 1 = omega arith in
    e ∙ sym f ∙ ap (bit_at w) g

pub moved_upper : (w k : ℕ) → k < 32 → bit_at (bit_and (w / 2) low) (2 * k + 1) ≡ 0
moved_upper w k lt = masked_upper (w / 2) k lt

-- the bits of a number's complement
pub not_bit : (x i : ℕ) → x < 2 ^ 64 → i < 64 → bit_at (bit_not w64 x) i ≡ 1 - bit_at x i
not_bit x i le lt = bit_at_not w64 x i le lt

-- the lower and the upper bits of the codes of a word
abbrev pub lows : ℕ → ℕ
lows w = bit_and w low

abbrev pub highs : ℕ → ℕ
highs w = bit_and (w / 2) low

pub lows_fit : (w : ℕ) → lows w < 2 ^ 64
lows_fit w = let le = and_le_r w low in omega (arith, le)

pub highs_fit : (w : ℕ) → highs w < 2 ^ 64
highs_fit w = lows_fit (w / 2)

-- a code by its two bits
by_bits : (code : Code) (m w k : ℕ) → m ≡ tally code (code_of (bit_at w (2 * k) + 2 * bit_at w (2 * k + 1))) → m ≡ tally code (word_code w k)
by_bits code m w k e = e ∙ ap (λ (n : ℕ). tally code (code_of n)) (sym (field_bits w k))

-- a mask whose lower bits are what a rule makes of the two bits of each code
by_rule : (code : Code) (rule : ℕ → ℕ → ℕ) (mask w : ℕ)
    → rule 0 0 ≡ tally code (code_of 0) → rule 0 1 ≡ tally code (code_of 2) → rule 1 0 ≡ tally code (code_of 1) → rule 1 1 ≡ tally code (code_of 3)
    → ((k : ℕ) → k < 32 → bit_at mask (2 * k) ≡ rule (bit_at w (2 * k)) (bit_at w (2 * k + 1)))
    → ((k : ℕ) → k < 32 → bit_at mask (2 * k + 1) ≡ 0)
    → Marks (λ k. tally code (word_code w k)) mask
by_rule code rule mask w free staged reserved used even odd = record {
  lower = λ k lt. by_bits code (bit_at mask (2 * k)) w k (even k lt ∙ two_bits (λ a b. rule a b ≡ tally code (code_of (a + 2 * b))) free staged reserved used (bit_at w (2 * k)) (bit_at w (2 * k + 1)) (bit_at-lt w (2 * k)) (bit_at-lt w (2 * k + 1)));
  upper = odd;
}

-- the lower bits of an `and`, and of an `and` with a complement
and_bits : (x y i a b : ℕ) → bit_at x i ≡ a → bit_at y i ≡ b → bit_at (bit_and x y) i ≡ min a b
and_bits x y i a b ex ey = bit_at_and x y i ∙ ap (λ (z : ℕ). min z (bit_at y i)) ex ∙ ap (min a) ey

or_bits : (x y i a b : ℕ) → bit_at x i ≡ a → bit_at y i ≡ b → bit_at (bit_or x y) i ≡ max a b
or_bits x y i a b ex ey = bit_at_or x y i ∙ ap (λ (z : ℕ). max z (bit_at y i)) ex ∙ ap (max a) ey

not_bits : (x i a : ℕ) → x < 2 ^ 64 → i < 64 → bit_at x i ≡ a → bit_at (bit_not w64 x) i ≡ 1 - a
not_bits x i a fits lt ex = bit_at_not w64 x i fits lt ∙ ap (λ (z : ℕ). 1 - z) ex

pub marks_used : (w : ℕ) → Marks (λ k. tally Used (word_code w k)) (bit_and (lows w) (highs w))
marks_used w = by_rule Used (λ a b. min a b) (bit_and (lows w) (highs w)) w refl refl refl refl
    (λ k lt. and_bits (lows w) (highs w) (2 * k) (bit_at w (2 * k)) (bit_at w (2 * k + 1)) (masked_lower w k lt) (moved_lower w k lt))
    (λ k lt. and_bits (lows w) (highs w) (2 * k + 1) 0 0 (masked_upper w k lt) (moved_upper w k lt))

pub marks_reserved : (w : ℕ) → Marks (λ k. tally Reserved (word_code w k)) (bit_and (lows w) (bit_not w64 (highs w)))
marks_reserved w = by_rule Reserved (λ a b. min a (1 - b)) (bit_and (lows w) (bit_not w64 (highs w))) w refl refl refl refl
    (λ k lt. and_bits (lows w) (bit_not w64 (highs w)) (2 * k) (bit_at w (2 * k)) (1 - bit_at w (2 * k + 1)) (masked_lower w k lt) (not_bits (highs w) (2 * k) (bit_at w (2 * k + 1)) (highs_fit w) (omega arith) (moved_lower w k lt)))
    (λ k lt. and_bits (lows w) (bit_not w64 (highs w)) (2 * k + 1) 0 1 (masked_upper w k lt) (not_bits (highs w) (2 * k + 1) 0 (highs_fit w) (omega arith) (moved_upper w k lt)))

pub marks_staged : (w : ℕ) → Marks (λ k. tally Staged (word_code w k)) (bit_and (highs w) (bit_not w64 (lows w)))
marks_staged w = by_rule Staged (λ a b. min b (1 - a)) (bit_and (highs w) (bit_not w64 (lows w))) w refl refl refl refl
    (λ k lt. and_bits (highs w) (bit_not w64 (lows w)) (2 * k) (bit_at w (2 * k + 1)) (1 - bit_at w (2 * k)) (moved_lower w k lt) (not_bits (lows w) (2 * k) (bit_at w (2 * k)) (lows_fit w) (omega arith) (masked_lower w k lt)))
    (λ k lt. and_bits (highs w) (bit_not w64 (lows w)) (2 * k + 1) 0 1 (moved_upper w k lt) (not_bits (lows w) (2 * k + 1) 0 (lows_fit w) (omega arith) (masked_upper w k lt)))

pub marks_free : (w : ℕ) → Marks (λ k. tally Free (word_code w k)) (bit_and low (bit_not w64 (bit_or (lows w) (highs w))))
marks_free w = by_rule Free (λ a b. min 1 (1 - max a b)) (bit_and low (bit_not w64 (bit_or (lows w) (highs w)))) w refl refl refl refl
    (λ k lt. and_bits low (bit_not w64 (bit_or (lows w) (highs w))) (2 * k) 1 (1 - max (bit_at w (2 * k)) (bit_at w (2 * k + 1))) (low_lower k lt)
    (not_bits (bit_or (lows w) (highs w)) (2 * k) (max (bit_at w (2 * k)) (bit_at w (2 * k + 1))) (or_lt 64 (lows w) (highs w) (lows_fit w) (highs_fit w)) (omega arith)
    (or_bits (lows w) (highs w) (2 * k) (bit_at w (2 * k)) (bit_at w (2 * k + 1)) (masked_lower w k lt) (moved_lower w k lt))))
    (λ k lt. and_bits low (bit_not w64 (bit_or (lows w) (highs w))) (2 * k + 1) 0 1 (low_upper k lt)
    (not_bits (bit_or (lows w) (highs w)) (2 * k + 1) 0 (or_lt 64 (lows w) (highs w) (lows_fit w) (highs_fit w)) (omega arith)
    (or_bits (lows w) (highs w) (2 * k + 1) 0 0 (masked_upper w k lt) (moved_upper w k lt))))

-- ones

one_bit : (a : ℕ) → a < 2 → count_ones a ≡ a
unfolding lib.Count.ones
one_bit zero lt = refl
one_bit (suc zero) lt = refl
one_bit (suc (suc n)) lt = absurd (omega arith)

ones_part : (f : ℕ → ℕ) (m : ℕ) → Marks f m → (n : ℕ) → n ≤ 32 → count_ones (m % 2 ^ (2 * n)) ≡ sum_below n f
ones_part f m marks zero le =
    let none : m % 2 ^ (2 * 0) ≡ 0 = omega arith in
    ap count_ones none ∙ one_bit 0 (omega arith)
ones_part f m marks (suc n) le =
    let rest : count_ones (m % 2 ^ (2 * n)) ≡ sum_below n f = ones_part f m marks n (omega arith) in
    let lower : bit_at m (2 * n) ≡ f n = marks.lower n (omega arith) in
    let upper : bit_at m (2 * n + 1) ≡ 0 = marks.upper n (omega arith) in
    let bits : m / 2 ^ (2 * n) % 4 ≡ bit_at m (2 * n) + 2 * bit_at m (2 * n + 1) = field_bits m n in
    let field : m / 2 ^ (2 * n) % 2 ^ 2 ≡ f n = omega (arith, bits, lower, upper) in
    let bit : bit_at m (2 * n) < 2 = bit_at-lt m (2 * n) in
    let cut : m % 2 ^ (2 + 2 * n) ≡ (m / 2 ^ (2 * n) % 2 ^ 2) * 2 ^ (2 * n) + m % 2 ^ (2 * n) = mod-pow-add m 2 (2 * n) in
    let width : 2 * suc n ≡ 2 + 2 * n = omega arith in
    let whole : m % 2 ^ (2 * suc n) ≡ f n * 2 ^ (2 * n) + m % 2 ^ (2 * n) = ap (λ (k : ℕ). m % 2 ^ k) width ∙ cut ∙ ap (λ (x : ℕ). x * 2 ^ (2 * n) + m % 2 ^ (2 * n)) field in
    let ones : count_ones (f n * 2 ^ (2 * n) + m % 2 ^ (2 * n)) ≡ count_ones (f n) + count_ones (m % 2 ^ (2 * n)) = ones_cat (2 * n) (f n) (m % 2 ^ (2 * n)) (mod_below m (2 ^ (2 * n)) (pow_pos (2 * n))) in
    let one : count_ones (f n) ≡ f n = one_bit (f n) (omega (arith, lower, bit)) in
    ap count_ones whole ∙ ones ∙ omega (arith, one, rest)

pub ones_marks : (f : ℕ → ℕ) (m : ℕ) → Marks f m → m < 2 ^ 64 → count_ones m ≡ sum_below 32 f
ones_marks f m marks fits =
    let whole : m ≡ m % 2 ^ (2 * 32) = omega arith in
    ap count_ones whole ∙ ones_part f m marks 32 (omega arith)

-- marks without those that are seen

unseen_one : (code x : Code) (s : ℕ) → s < 2 → min (tally code x) (1 - s) ≡ tally_unseen code x (flag_of s)
unseen_one code x zero lt = least (tally code x) (tally_le code x)
  where
    least : (n : ℕ) → n ≤ 1 → min n 1 ≡ n
    least n le = omega arith
unseen_one code x (suc zero) lt = none (tally code x)
  where
    none : (n : ℕ) → min n 0 ≡ 0
    none n = omega arith
unseen_one code x (suc (suc s)) lt = absurd (omega arith)

pub marks_unseen : (code : Code) (w m seen : ℕ) → seen < 2 ^ 64 → Marks (λ k. tally code (word_code w k)) m → Marks (λ k. tally_unseen code (word_code w k) (flag_of (bit_at seen (2 * k)))) (bit_and m (bit_not w64 seen))
marks_unseen code w m seen fits marks = record {
  lower = λ k lt. and_bits m (bit_not w64 seen) (2 * k) (tally code (word_code w k)) (1 - bit_at seen (2 * k)) (marks.lower k lt) (not_bit seen (2 * k) fits (omega arith)) ∙ unseen_one code (word_code w k) (bit_at seen (2 * k)) (bit_at-lt seen (2 * k));
  upper = λ k lt.
      let e = bit_at_and m (bit_not w64 seen) (2 * k + 1) in
      let none = marks.upper k lt in
      omega (arith, e, none);
}

-- the sweep of a word

doubled : (n i : ℕ) → bit_at (n * 2) (suc i) ≡ bit_at n i
doubled n i =
    let half : n * 2 / 2 ≡ n = omega arith in
    bit_at-suc (n * 2) i ∙ ap (λ (x : ℕ). bit_at x i) half

-- the bits of a doubled mask that has lower bits alone
doubled_lower : (n k : ℕ) → ((i : ℕ) → i < 32 → bit_at n (2 * i + 1) ≡ 0) → k < 32 → bit_at (n * 2) (2 * k) ≡ 0
doubled_lower n zero none lt = omega arith
doubled_lower n (suc k) none lt =
    let e : 2 * suc k ≡ suc (2 * k + 1) = omega arith in
    ap (bit_at (n * 2)) e ∙ doubled n (2 * k + 1) ∙ none k (omega arith)

doubled_upper : (n k : ℕ) → bit_at (n * 2) (2 * k + 1) ≡ bit_at n (2 * k)
doubled_upper n k =
    let e : 2 * k + 1 ≡ suc (2 * k) = omega arith in
    ap (bit_at (n * 2)) e ∙ doubled n (2 * k)

abbrev new_highs : ℕ → ℕ → ℕ
new_highs w seen = bit_and (highs w) (bit_or (lows w) seen)

abbrev new_lows : ℕ → ℕ → ℕ
new_lows w seen = bit_or (bit_and (lows w) (bit_not w64 (highs w))) (bit_and (highs w) seen)

-- the two bits of a chunk after a pass: the upper and the lower
abbrev swept_high : ℕ → ℕ → ℕ → ℕ
swept_high a b s = min b (max a s)

abbrev swept_low : ℕ → ℕ → ℕ → ℕ
swept_low a b s = max (min a (1 - b)) (min b s)

new_high : (w seen k : ℕ) → k < 32 → bit_at (new_highs w seen) (2 * k) ≡ swept_high (bit_at w (2 * k)) (bit_at w (2 * k + 1)) (bit_at seen (2 * k))
new_high w seen k lt = and_bits (highs w) (bit_or (lows w) seen) (2 * k) (bit_at w (2 * k + 1)) (max (bit_at w (2 * k)) (bit_at seen (2 * k))) (moved_lower w k lt)
    (or_bits (lows w) seen (2 * k) (bit_at w (2 * k)) (bit_at seen (2 * k)) (masked_lower w k lt) refl)

no_high : (w seen k : ℕ) → k < 32 → bit_at (new_highs w seen) (2 * k + 1) ≡ 0
no_high w seen k lt =
    let e = bit_at_and (highs w) (bit_or (lows w) seen) (2 * k + 1) in
    let none = moved_upper w k lt in
    omega (arith, e, none)

new_low : (w seen k : ℕ) → k < 32 → bit_at (new_lows w seen) (2 * k) ≡ swept_low (bit_at w (2 * k)) (bit_at w (2 * k + 1)) (bit_at seen (2 * k))
new_low w seen k lt = or_bits (bit_and (lows w) (bit_not w64 (highs w))) (bit_and (highs w) seen) (2 * k) (min (bit_at w (2 * k)) (1 - bit_at w (2 * k + 1))) (min (bit_at w (2 * k + 1)) (bit_at seen (2 * k)))
    (and_bits (lows w) (bit_not w64 (highs w)) (2 * k) (bit_at w (2 * k)) (1 - bit_at w (2 * k + 1)) (masked_lower w k lt) (not_bits (highs w) (2 * k) (bit_at w (2 * k + 1)) (highs_fit w) (omega arith) (moved_lower w k lt)))
    (and_bits (highs w) seen (2 * k) (bit_at w (2 * k + 1)) (bit_at seen (2 * k)) (moved_lower w k lt) refl)

no_low : (w seen k : ℕ) → k < 32 → bit_at (new_lows w seen) (2 * k + 1) ≡ 0
no_low w seen k lt =
    let e = bit_at_or (bit_and (lows w) (bit_not w64 (highs w))) (bit_and (highs w) seen) (2 * k + 1) in
    let f = bit_at_and (lows w) (bit_not w64 (highs w)) (2 * k + 1) in
    let g = bit_at_and (highs w) seen (2 * k + 1) in
    let one = masked_upper w k lt in
    let two = moved_upper w k lt in
    omega (arith, e, f, g, one, two)

-- the table of bulkfree, bit by bit
swept_bits : (s : ℕ) → s < 2 → (a b : ℕ) → a < 2 → b < 2 → code_of (swept_low a b s + 2 * swept_high a b s) ≡ swept_code (flag_of s) (code_of (a + 2 * b))
swept_bits zero lt a b la lb = two_bits (λ a b. code_of (swept_low a b 0 + 2 * swept_high a b 0) ≡ swept_code (flag_of 0) (code_of (a + 2 * b))) refl refl refl refl a b la lb
swept_bits (suc zero) lt a b la lb = two_bits (λ a b. code_of (swept_low a b 1 + 2 * swept_high a b 1) ≡ swept_code (flag_of 1) (code_of (a + 2 * b))) refl refl refl refl a b la lb
swept_bits (suc (suc s)) lt a b la lb = absurd (omega arith)

pub swept_word : (w seen : ℕ) → (k : ℕ) → k < 32 → word_code (bit_or (new_highs w seen * 2 % 2 ^ 64) (new_lows w seen)) k ≡ swept_code (flag_of (bit_at seen (2 * k))) (word_code w k)
swept_word w seen k lt =
    let r : ℕ = bit_or (new_highs w seen * 2 % 2 ^ 64) (new_lows w seen) in
    let small = and_le_l (highs w) (bit_or (lows w) seen) in
    let smaller = and_le_r (w / 2) low in
    let fits : new_highs w seen * 2 % 2 ^ 64 ≡ new_highs w seen * 2 = omega (arith, small, smaller) in
    let lower : bit_at r (2 * k) ≡ max 0 (swept_low (bit_at w (2 * k)) (bit_at w (2 * k + 1)) (bit_at seen (2 * k))) = or_bits (new_highs w seen * 2 % 2 ^ 64) (new_lows w seen) (2 * k) 0 (swept_low (bit_at w (2 * k)) (bit_at w (2 * k + 1)) (bit_at seen (2 * k))) (ap (λ (x : ℕ). bit_at x (2 * k)) fits ∙ doubled_lower (new_highs w seen) k (no_high w seen) lt) (new_low w seen k lt) in
    let upper : bit_at r (2 * k + 1) ≡ max (swept_high (bit_at w (2 * k)) (bit_at w (2 * k + 1)) (bit_at seen (2 * k))) 0 = or_bits (new_highs w seen * 2 % 2 ^ 64) (new_lows w seen) (2 * k + 1) (swept_high (bit_at w (2 * k)) (bit_at w (2 * k + 1)) (bit_at seen (2 * k))) 0 (ap (λ (x : ℕ). bit_at x (2 * k + 1)) fits ∙ doubled_upper (new_highs w seen) k ∙ new_high w seen k lt) (no_low w seen k lt) in
    let bits : r / 2 ^ (2 * k) % 4 ≡ swept_low (bit_at w (2 * k)) (bit_at w (2 * k + 1)) (bit_at seen (2 * k)) + 2 * swept_high (bit_at w (2 * k)) (bit_at w (2 * k + 1)) (bit_at seen (2 * k)) = field_bits r k ∙ omega (arith, lower, upper) in
    ap code_of bits ∙ swept_bits (bit_at seen (2 * k)) (bit_at-lt seen (2 * k)) (bit_at w (2 * k)) (bit_at w (2 * k + 1)) (bit_at-lt w (2 * k)) (bit_at-lt w (2 * k + 1)) ∙ ap (λ (n : ℕ). swept_code (flag_of (bit_at seen (2 * k))) (code_of n)) (sym (field_bits w k))

-- the first free chunk

-- the bits of a mask below a place are cleared, and the others stay
cut_fits : (m s : ℕ) → m < 2 ^ 64 → m / 2 ^ s * 2 ^ s % 2 ^ 64 ≡ m / 2 ^ s * 2 ^ s
cut_fits m s fits = let e = shr_split m s in omega (arith, e)

cut_above : (m s i : ℕ) → s ≤ i → bit_at (m / 2 ^ s * 2 ^ s) i ≡ bit_at m i
cut_above m s i le =
    let zero_more : m / 2 ^ s * 2 ^ s ≡ m / 2 ^ s * 2 ^ s + 0 = omega arith in
    let at : s + (i - s) ≡ i = omega arith in
    ap (λ (x : ℕ). bit_at x i) zero_more ∙ bit_at_cat_high (m / 2 ^ s) s 0 i (pow_pos s) le ∙ ap (λ (x : ℕ). x % 2) (shr-shr m s (i - s)) ∙ ap (bit_at m) at

cut_below : (m s i : ℕ) → i < s → bit_at (m / 2 ^ s * 2 ^ s) i ≡ 0
cut_below m s i lt =
    let zero_more : m / 2 ^ s * 2 ^ s ≡ m / 2 ^ s * 2 ^ s + 0 = omega arith in
    ap (λ (x : ℕ). bit_at x i) zero_more ∙ bit_at_cat_low (m / 2 ^ s) s 0 i lt ∙ bit_at-zero i

tally_free : (x : Code) → tally Free x ≡ 1 → x ≡ Free
tally_free Free e = refl
tally_free Reserved e = absurd (omega arith)
tally_free Staged e = absurd (omega arith)
tally_free Used e = absurd (omega arith)

not_free : (x : Code) → tally Free x ≡ 0 → x ≢ Free
not_free x e f =
    let g : tally Free x ≡ 1 = ap (tally Free) f in
    omega arith

-- the mask of the free chunks from one on
abbrev pub free_from : ℕ → ℕ → ℕ
free_from m from = m / 2 ^ (2 * from) * 2 ^ (2 * from) % 2 ^ 64

from_bit : (m from i : ℕ) → m < 2 ^ 64 → 2 * from ≤ i → bit_at (free_from m from) i ≡ bit_at m i
from_bit m from i fits le = ap (λ (x : ℕ). bit_at x i) (cut_fits m (2 * from) fits) ∙ cut_above m (2 * from) i le

from_no_bit : (m from i : ℕ) → m < 2 ^ 64 → i < 2 * from → bit_at (free_from m from) i ≡ 0
from_no_bit m from i fits lt = ap (λ (x : ℕ). bit_at x i) (cut_fits m (2 * from) fits) ∙ cut_below m (2 * from) i lt

pub none_free : (w m from : ℕ) → m < 2 ^ 64 → Marks (λ k. tally Free (word_code w k)) m → free_from m from ≡ 0 → NoneFreeIn from 32 w
none_free w m from fits marks none = λ k le lt.
    let e : bit_at m (2 * k) ≡ tally Free (word_code w k) = marks.lower k lt in
    let f : bit_at (free_from m from) (2 * k) ≡ bit_at m (2 * k) = from_bit m from (2 * k) fits (omega arith) in
    let g : bit_at (free_from m from) (2 * k) ≡ 0 = ap (λ (x : ℕ). bit_at x (2 * k)) none ∙ bit_at-zero (2 * k) in
    not_free (word_code w k) (sym e ∙ sym f ∙ g)

-- a number is even or odd
halves : (t : ℕ) → (t ≡ 2 * (t / 2)) ⊎ (t ≡ 2 * (t / 2) + 1)
halves t = split (bit_cases (t % 2) (omega arith))
  where
    split : (t % 2 ≡ 0) ⊎ (t % 2 ≡ 1) → (t ≡ 2 * (t / 2)) ⊎ (t ≡ 2 * (t / 2) + 1)
    split (inl e) = inl (omega arith)
    split (inr e) = inr (omega arith)

-- the least bit of the mask is that of the first free chunk
least_bit : (w m from t : ℕ) → m < 2 ^ 64 → Marks (λ k. tally Free (word_code w k)) m → t < 64 → bit_at (free_from m from) t ≡ 1 → ((i : ℕ) → i < t → bit_at (free_from m from) i ≡ 0) → IsFirstFree from w (t / 2)
least_bit w m from t fits marks lt one least = at_place (cases_lt t (2 * from)) (halves t)
  where
    at_place : (t < 2 * from) ⊎ (2 * from ≤ t) → (t ≡ 2 * (t / 2)) ⊎ (t ≡ 2 * (t / 2) + 1) → IsFirstFree from w (t / 2)
    at_place (inl below) c = let none = from_no_bit m from t fits below in absurd (omega (arith, none, one))
    at_place (inr le) (inr odd) =
        let here : bit_at (free_from m from) t ≡ bit_at m t = from_bit m from t fits le in
        let none : bit_at m (2 * (t / 2) + 1) ≡ 0 = marks.upper (t / 2) (omega arith) in
        let same : bit_at m t ≡ bit_at m (2 * (t / 2) + 1) = ap (bit_at m) odd in
        absurd (omega (arith, here, none, same, one))
    at_place (inr le) (inl even) =
        let here : bit_at (free_from m from) t ≡ bit_at m t = from_bit m from t fits le in
        let same : bit_at m t ≡ bit_at m (2 * (t / 2)) = ap (bit_at m) even in
        let is : bit_at m (2 * (t / 2)) ≡ tally Free (word_code w (t / 2)) = marks.lower (t / 2) (omega arith) in
        record {
          from_on = omega arith;
          in_word = omega arith;
          free = tally_free (word_code w (t / 2)) (sym is ∙ sym same ∙ sym here ∙ one);
          least = λ k ge below.
              let e : bit_at m (2 * k) ≡ tally Free (word_code w k) = marks.lower k (omega arith) in
              let g : bit_at (free_from m from) (2 * k) ≡ bit_at m (2 * k) = from_bit m from (2 * k) fits (omega arith) in
              not_free (word_code w k) (sym e ∙ sym g ∙ least (2 * k) (omega arith));
        }

pub first_free : (w m from : ℕ) → m < 2 ^ 64 → Marks (λ k. tally Free (word_code w k)) m → 0 < free_from m from → IsFirstFree from w (trailing_zeros w64 (free_from m from) / 2)
first_free w m from fits marks some =
    let small : free_from m from < 2 ^ 64 = mod_below (m / 2 ^ (2 * from) * 2 ^ (2 * from)) (2 ^ 64) (pow_pos 64) in
    let least = bit_at-trailing_zeros w64 (free_from m from) some small in
    least_bit w m from (trailing_zeros w64 (free_from m from)) fits marks (least.0) (least.1) (least.2)
