-- Which bytes must be zero: those of three gaps.
use Rattle.std.specs.Prelude.{◌≡◌, ◌<◌, ◌≤◌, ℕ, Bool, true, false, ◌&&◌, ◌||◌, ◌+◌, ◌==◌, nat_le, nat_lt, not, Some, None}
use Rattle.std.proofs.Common.{ap, arith, inl, inr}
use Rattle.std.proofs.lemmas.Bool.{and_from, and_parts, or_left, or_right, or_cases, leb-true, le-leb, ltb-true, lt-ltb, eqb-true, eq-eqb, and_right, and_left, cases_Bool, both_ways, not_from_true}
use Rattle.h2_num.specs.Places.{Places}
use Rattle.h2_ref.specs.declared.table.Row.{Row}
use Rattle.h2_ref.specs.Fault.{area_len_at, fields_end_at, must_be_zero, is_padding, first_place}
use Rattle.h2_ref.specs.FirstPlace.{first_place-of_none, first_place-found}

module _ (w : Row) (b : Places) where
  -- a place between the fields and the key
  abbrev before_key : ℕ → Bool
  before_key k = nat_le 4 k && nat_lt k 8

  -- a place between the last field and the check area
  abbrev before_area : ℕ → Bool
  before_area k = nat_le (fields_end_at w.names) k && nat_lt k 64

  -- a place behind the check area's content
  abbrev behind : ℕ → Bool
  behind k = nat_le (64 + area_len_at w w.names b) k

  -- the bytes of each gap must be zero
  pub must_before_key : (k : ℕ) → 4 ≤ k → k < 8 → must_be_zero w b k ≡ true
  must_before_key k ge lt = or_left (before_key k || before_area k) (behind k) (or_left (before_key k) (before_area k) (and_from (nat_le 4 k) (nat_lt k 8) (le-leb 4 k ge) (lt-ltb k 8 lt)))

  pub must_before_area : (k : ℕ) → fields_end_at w.names ≤ k → k < 64 → must_be_zero w b k ≡ true
  must_before_area k ge lt =
      or_left (before_key k || before_area k) (behind k) (or_right (before_key k) (before_area k) (and_from (nat_le (fields_end_at w.names) k) (nat_lt k 64) (le-leb (fields_end_at w.names) k ge) (lt-ltb k 64 lt)))

  pub must_behind : (k : ℕ) → 64 + area_len_at w w.names b ≤ k → must_be_zero w b k ≡ true
  must_behind k ge = or_right (before_key k || before_area k) (behind k) (le-leb (64 + area_len_at w w.names b) k ge)

  -- a byte that must be zero and is no padding is zero
  pub zero_there : (k : ℕ) → is_padding w b k ≡ false → must_be_zero w b k ≡ true → b k ≡ 0
  zero_there k e must = elim (cases_Bool (b k == 0)) [
    | inl is ↦ eqb-true (b k) 0 is
    | inr isnt ↦ absurd (both_ways (must_be_zero w b k && not (b k == 0)) e (and_from (must_be_zero w b k) (not (b k == 0)) must (ap not isnt)))
  ]

  -- a byte that is zero wherever it stands in a gap is no padding
  pub not_padding : (k : ℕ) → (4 ≤ k → k < 8 → b k ≡ 0) → (fields_end_at w.names ≤ k → k < 64 → b k ≡ 0) → (64 + area_len_at w w.names b ≤ k → b k ≡ 0) → is_padding w b k ≡ false
  not_padding k in_key in_area in_tail = elim (cases_Bool (must_be_zero w b k)) [
    | inr free ↦ and_left (must_be_zero w b k) (not (b k == 0)) free
    | inl must ↦ and_right (must_be_zero w b k) (not (b k == 0)) (not_from_true (b k == 0) (eq-eqb (b k) 0 (zero must)))
  ]
    where
      zero : must_be_zero w b k ≡ true → b k ≡ 0
      zero must = elim (or_cases (before_key k || before_area k) (behind k) must) [
        | inr high ↦ in_tail (leb-true (64 + area_len_at w w.names b) k high)
        | inl before ↦ elim (or_cases (before_key k) (before_area k) before) [
          | inl low ↦ let p = and_parts (nat_le 4 k) (nat_lt k 8) low in in_key (leb-true 4 k p.0) (ltb-true k 8 p.1)
          | inr middle ↦ let p = and_parts (nat_le (fields_end_at w.names) k) (nat_lt k 64) middle in in_area (leb-true (fields_end_at w.names) k p.0) (ltb-true k 64 p.1)
        ]
      ]

  -- the gaps are zero below a place
  pub record AreZeroBelow (n : ℕ) : Type 0 where
    pub in_key : (k : ℕ) → 4 ≤ k → k < 8 → k < n → b k ≡ 0
    pub in_area : (k : ℕ) → fields_end_at w.names ≤ k → k < 64 → k < n → b k ≡ 0
    pub in_tail : (k : ℕ) → 64 + area_len_at w w.names b ≤ k → k < n → b k ≡ 0

  -- where they are, there is no padding
  pub no_padding_below : (n : ℕ) → AreZeroBelow n → first_place (is_padding w b) n ≡ None
  no_padding_below n h = first_place-of_none (is_padding w b) n (λ k lt. not_padding k (λ ge below. h.in_key k ge below lt) (λ ge below. h.in_area k ge below lt) (λ ge. h.in_tail k ge lt))

  -- the first padding: a nonzero byte that must be zero, where the gaps are zero below
  pub padding_found : (n k : ℕ) → AreZeroBelow k → must_be_zero w b k ≡ true → 0 < b k → k < n → first_place (is_padding w b) n ≡ Some k
  padding_found n k h must above lt =
      first_place-found (is_padding w b) k n (no_padding_below k h) (and_from (must_be_zero w b k) (not (b k == 0)) must nonzero) lt
    where
      nonzero : not (b k == 0) ≡ true
      nonzero = elim (cases_Bool (b k == 0)) [
        | inl is ↦ let e : b k ≡ 0 = eqb-true (b k) 0 is in absurd (omega arith)
        | inr isnt ↦ ap not isnt
      ]
