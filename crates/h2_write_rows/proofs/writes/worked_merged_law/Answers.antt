use Rattle.std.proofs.Common.{◌≡◌, ◌<◌, ◌≤◌, ◌⊎◌, ◌+◌, ◌-◌, ℕ, zero, suc, [], ◌∷◌, length, replicate, arith, ap, sym, subst, ◌∙◌, inl, inr, refl, get_or, length-append}
use Rattle.std.specs.Prelude.{Option, Some, None}
use Rattle.std.proofs.lemmas.Bool.{cases_lt}
use Rattle.std.proofs.lemmas.List.{get_or-replicate, get_or_append_left, get_or-append_right, get_or_past, length-replicate}
use Rattle.h2_num.specs.Places.{Places, places}
use Rattle.h2_contents.specs.Windows.{laid}
use Rattle.h2_contents.specs.PageLaws.{laid_outside}
use Rattle.h2_file.specs.Writing.{IsMerged}
use Rattle.h2_write_rows.specs.Writes.{ones, written, block_at, one_block, merged_first}
use Rattle.h2_write_rows.proofs.writes.worked_merged_law.Goals as goal

one_at : (k : ℕ) → k < 20000 → get_or ones k 0 ≡ 1
one_at k lt = get_or-replicate 20000 k 1 0 lt

long_ones : length {A = ℕ} (replicate 16382 1) ≡ 16382
long_ones = length-replicate {A = ℕ} 16382 1

in_front : (n k : ℕ) → n ≡ 16382 → k < 16382 → k < n
in_front n k e lt = omega arith

-- the two last bytes of the block
last_two : (j : ℕ) → get_or merged_first (16382 + j) 0 ≡ get_or (9 ∷ 8 ∷ []) (16382 + j - 16382) 0
last_two j = get_or-append_right (replicate 16382 1) (9 ∷ 8 ∷ []) 16382 (16382 + j) 0 long_ones (omega arith)

merged : (k : ℕ) → k < 16384 → get_or merged_first k 0 ≡ laid 16382 written (0 + k) (get_or ones k 0)
merged k lt = split (cases_lt k 16382)
  where
    low_in : 0 + k < 16382 → (0 + k < 16382) ⊎ (16382 + 4 ≤ 0 + k)
    low_in h = inl h

    at_end : (j : ℕ) → j < 2 → get_or merged_first (16382 + j) 0 ≡ laid 16382 written (0 + (16382 + j)) (get_or ones (16382 + j) 0)
    at_end zero h = last_two 0
    at_end (suc zero) h = last_two 1
    at_end (suc (suc j)) h = absurd (let high : suc (suc j) < 2 = h in omega arith)

    place_is : 16382 ≤ k → 16382 + (k - 16382) ≡ k
    place_is le = omega arith

    split : (k < 16382) ⊎ (16382 ≤ k) → get_or merged_first k 0 ≡ laid 16382 written (0 + k) (get_or ones k 0)
    split (inl h) =
        get_or_append_left (replicate 16382 1) (9 ∷ 8 ∷ []) 0 k (in_front (length {A = ℕ} (replicate 16382 1)) k long_ones h)
        ∙ get_or-replicate 16382 k 1 0 h
        ∙ sym (laid_outside 16382 written (0 + k) (get_or ones k 0) (low_in (omega arith)) ∙ one_at k (omega arith))
    split (inr h) = subst (λ (z : ℕ). get_or merged_first z 0 ≡ laid 16382 written (0 + z) (get_or ones z 0)) (place_is h) (at_end (k - 16382) (omega arith))

-- the bytes that a reference is said to name
bytes_in : Option Places → ℕ → ℕ
bytes_in (Some b) k = b k
bytes_in None k = 0

same_bytes : (a b : Places) → Some a ≡ Some b → (k : ℕ) → a k ≡ b k
unfolding bytes_in
same_bytes a b e k = ap (λ (o : Option Places). bytes_in o k) e

not_unmerged : IsMerged (one_block ones) ones 16382 written (block_at 0) → ⊥
not_unmerged m =
    let known : get_or ones 16382 0 ≡ get_or m.after 16382 0 = same_bytes (places ones) (places m.after) m.known 16382 in
    let nine : get_or m.after 16382 0 ≡ 9 = m.laid 16382 (in_after (length m.after) m.long) in
    let one : get_or ones 16382 0 ≡ 1 = one_at 16382 (omega arith) in
    apart (get_or ones 16382 0) one (known ∙ nine)
  where
    in_after : (n : ℕ) → n ≡ 16384 → 16382 < n
    in_after n e = omega arith

    apart : (n : ℕ) → n ≡ 1 → n ≡ 9 → ⊥
    apart n e f = absurd (omega arith)

not_one : (n : ℕ) → n ≡ 1 → 0 ≡ n → ⊥
not_one n e f = absurd (omega arith)

past_first : (k : ℕ) → ◌≡◌ {A = ℕ} 0 (get_or (1 ∷ []) (16384 + k) 0)
past_first k = sym (get_or_past {X = ℕ} (1 ∷ []) (16384 + k) 0 (let far : 1 ≤ 16384 + k = omega arith in far))

from_zero : (k : ℕ) → get_or ones k 0 ≡ get_or ones (0 + k) 0
from_zero k = ap (λ (z : ℕ). get_or ones z 0) (let e : k ≡ 0 + k = omega arith in e)

whole_length : (n : ℕ) → n ≡ 16382 → n + 2 ≡ 16384
whole_length n e = omega arith

long_first : length merged_first ≡ 16384
long_first = length-append {A = ℕ} (replicate 16382 1) (9 ∷ 8 ∷ []) ∙ whole_length (length {A = ℕ} (replicate 16382 1)) long_ones

within : (n k : ℕ) → n ≡ 16384 → k < n → k < 16384
within n k e lt = omega arith

pub returns : goal.returns
returns c = record {
  first = record {
    before = ones;
    after = merged_first;
    was = λ k lt. from_zero k;
    laid = λ k lt. merged k (within (length merged_first) k long_first lt);
    long = long_first;
    known = refl;
  };
  not_unmerged = not_unmerged;
  hole = λ k lt. past_first k;
  not_hole = λ hole. not_one (get_or ones 16384 0) (one_at 16384 (omega arith)) (hole 0 (omega arith));
  block = (refl, (places ones, refl, λ k lt. from_zero k));
  not_other_block = λ found. absurd (let e : ◌≡◌ {A = ℕ} 0 16384 = found.0 in omega arith);
}
