use Rattle.std.proofs.Common.{◌≡◌, ◌<◌, ◌≤◌, ℕ, zero, suc, arith, ap, refl}
use Rattle.std.specs.Prelude.{Option, Some, None}
use Rattle.h2_header.specs.declared.header.Header.{Header}
use Rattle.h2_header.specs.Newest.{HasHeader, IsNewestOf, NoneOf}
use Rattle.h2_space_rows.specs.Headers.{header_of, four_slots, tied_slots, empty_slots}
use Rattle.h2_space_rows.proofs.headers.worked_newest_law.Goals as goal

-- the number of what a slot holds, and 0 for nothing
number_in : Option Header → ℕ
number_in (Some h) = h.number
number_in None = 0

number_is : (n : ℕ) (h : Header) → Some (header_of n) ≡ Some h → n ≡ h.number
unfolding number_in
number_is n h e = ap number_in e

no_header : (A : Type 0) (h : Header) → ◌≡◌ {A = Option Header} None (Some h) → A
no_header A h e = cc

greatest_four : (i : ℕ) (other : Header) → i < 4 → HasHeader four_slots i other → other.number ≤ 7
greatest_four zero other lt e = let f : 5 ≡ other.number = number_is 5 other e in omega arith
greatest_four (suc zero) other lt e = no_header (other.number ≤ 7) other e
greatest_four (suc (suc zero)) other lt e = let f : 7 ≡ other.number = number_is 7 other e in omega arith
greatest_four (suc (suc (suc zero))) other lt e = let f : 6 ≡ other.number = number_is 6 other e in omega arith
greatest_four (suc (suc (suc (suc i)))) other lt e = absurd (let f : suc (suc (suc (suc i))) < 4 = lt in omega arith)

first_four : (i : ℕ) (other : Header) → i < 2 → HasHeader four_slots i other → other.number < 7
first_four zero other lt e = let f : 5 ≡ other.number = number_is 5 other e in omega arith
first_four (suc zero) other lt e = no_header (other.number < 7) other e
first_four (suc (suc i)) other lt e = absurd (let f : suc (suc i) < 2 = lt in omega arith)

greatest_two : (i : ℕ) (other : Header) → i < 2 → HasHeader four_slots i other → other.number ≤ 5
greatest_two zero other lt e = let f : 5 ≡ other.number = number_is 5 other e in omega arith
greatest_two (suc zero) other lt e = no_header (other.number ≤ 5) other e
greatest_two (suc (suc i)) other lt e = absurd (let f : suc (suc i) < 2 = lt in omega arith)

greatest_tied : (i : ℕ) (other : Header) → i < 4 → HasHeader tied_slots i other → other.number ≤ 7
greatest_tied zero other lt e = let f : 5 ≡ other.number = number_is 5 other e in omega arith
greatest_tied (suc zero) other lt e = let f : 7 ≡ other.number = number_is 7 other e in omega arith
greatest_tied (suc (suc zero)) other lt e = let f : 7 ≡ other.number = number_is 7 other e in omega arith
greatest_tied (suc (suc (suc zero))) other lt e = no_header (other.number ≤ 7) other e
greatest_tied (suc (suc (suc (suc i)))) other lt e = absurd (let f : suc (suc (suc (suc i))) < 4 = lt in omega arith)

first_tied : (i : ℕ) (other : Header) → i < 1 → HasHeader tied_slots i other → other.number < 7
first_tied zero other lt e = let f : 5 ≡ other.number = number_is 5 other e in omega arith
first_tied (suc i) other lt e = absurd (let f : suc i < 1 = lt in omega arith)

none_in_empty : NoneOf 4 empty_slots
none_in_empty zero h lt e = no_header ⊥ h e
none_in_empty (suc zero) h lt e = no_header ⊥ h e
none_in_empty (suc (suc zero)) h lt e = no_header ⊥ h e
none_in_empty (suc (suc (suc zero))) h lt e = no_header ⊥ h e
none_in_empty (suc (suc (suc (suc i)))) h lt e = absurd (let f : suc (suc (suc (suc i))) < 4 = lt in omega arith)

not_older : IsNewestOf 4 four_slots 3 → ⊥
not_older n = absurd (let e : 6 ≡ n.header.number = number_is 6 n.header n.here in let le : 7 ≤ n.header.number = n.greatest 2 (header_of 7) (omega arith) refl in omega arith)

not_second : IsNewestOf 4 tied_slots 2 → ⊥
not_second n = absurd (let e : 7 ≡ n.header.number = number_is 7 n.header n.here in let lt : 7 < n.header.number = n.first 1 (header_of 7) (omega arith) refl in omega arith)

pub returns : goal.returns
returns c = record {
  has = refl;
  newest = record { header = header_of 7; below = omega arith; here = refl; greatest = greatest_four; first = first_four };
  of_two = record { header = header_of 5; below = omega arith; here = refl; greatest = greatest_two; first = λ i other lt e. absurd (let f : i < 0 = lt in omega arith) };
  not_older = not_older;
  not_empty = λ n. no_header ⊥ n.header n.here;
  first_of_same = record { header = header_of 7; below = omega arith; here = refl; greatest = greatest_tied; first = first_tied };
  not_second_of_same = not_second;
  none = none_in_empty;
  not_none = λ n. n 0 (header_of 5) (omega arith) refl;
}
