-- The tests of the table and its facts are the same.
use Rattle.std.specs.Prelude.{◌≡◌, ◌⊎◌, ◌<◌, ⊤, ℕ, zero, suc, true, ◌&&◌, ◌||◌, ◌%◌, ◌^◌, ◌==◌, nat_le, nat_lt, Option, Some, None, refl}
use Rattle.std.proofs.Common.{inl, inr}
use Rattle.std.proofs.lemmas.Bool.{and_parts, and_from, or_cases, or_left, or_right, leb-true, le-leb, ltb-true, lt-ltb, eqb-true, eq-eqb}
use Rattle.h2_num.specs.Places.{Places, number_at}
use Rattle.h2_ref.specs.declared.table.Span.{Span}
use Rattle.h2_ref.specs.declared.table.Keybits.{Keybits}
use Rattle.h2_ref.specs.declared.table.Keybits.TheVariants.{Just, Either, Between}
use Rattle.h2_ref.specs.declared.table.Methods.{Methods}
use Rattle.h2_ref.specs.declared.table.Methods.TheVariants.{One, Two}
use Rattle.h2_ref.specs.declared.table.Row.{Row}
use Rattle.h2_ref.specs.Methods.{method_row}
use Rattle.h2_ref.specs.Ref.{InSpan, IsMethodOf, HasKeybits, KeyFits, PlaceFits}
use Rattle.h2_ref.specs.Fault.{in_span, is_method_of, has_keybits, key_fits, place_fits, entry_fits_at}

pub in_span-fact : (s : Span) (n : ℕ) → in_span s n ≡ true → InSpan s n
in_span-fact s n e = let p = and_parts (nat_le s.least n) (nat_le n s.last) e in record { least = leb-true s.least n p.0; last = leb-true n s.last p.1 }

pub in_span-test : (s : Span) (n : ℕ) → InSpan s n → in_span s n ≡ true
in_span-test s n h = and_from (nat_le s.least n) (nat_le n s.last) (le-leb s.least n h.least) (le-leb n s.last h.last)

pub method-fact : (m : Methods) (n : ℕ) → is_method_of m n ≡ true → IsMethodOf m n
method-fact (One a) n e = eqb-true n (method_row a).number e
method-fact (Two a b) n e = elim (or_cases (n == (method_row a).number) (n == (method_row b).number) e) [
  | inl one ↦ inl (eqb-true n (method_row a).number one)
  | inr two ↦ inr (eqb-true n (method_row b).number two)
]

pub method-test : (m : Methods) (n : ℕ) → IsMethodOf m n → is_method_of m n ≡ true
method-test (One a) n h = eq-eqb n (method_row a).number h
method-test (Two a b) n (inl one) = or_left (n == (method_row a).number) (n == (method_row b).number) (eq-eqb n (method_row a).number one)
method-test (Two a b) n (inr two) = or_right (n == (method_row a).number) (n == (method_row b).number) (eq-eqb n (method_row b).number two)

keybits-fact : (k : Keybits) (n : ℕ) → has_keybits k n ≡ true → HasKeybits k n
keybits-fact (Just a) n e = eqb-true n a e
keybits-fact (Either a b) n e = elim (or_cases (n == a) (n == b) e) [
  | inl one ↦ inl (eqb-true n a one)
  | inr two ↦ inr (eqb-true n b two)
]
keybits-fact (Between a b) n e = let p = and_parts (nat_le a n) (nat_le n b) e in (leb-true a n p.0, leb-true n b p.1)

keybits-test : (k : Keybits) (n : ℕ) → HasKeybits k n → has_keybits k n ≡ true
keybits-test (Just a) n h = eq-eqb n a h
keybits-test (Either a b) n (inl one) = or_left (n == a) (n == b) (eq-eqb n a one)
keybits-test (Either a b) n (inr two) = or_right (n == a) (n == b) (eq-eqb n b two)
keybits-test (Between a b) n h = and_from (nat_le a n) (nat_le n b) (le-leb a n h.0) (le-leb n b h.1)

pub key-fact : (w : Row) (bits key : ℕ) → key_fits w bits key ≡ true → KeyFits w bits key
key-fact w bits key e =
    let p = and_parts (has_keybits w.keybits bits && in_span w.keys key) (key % 2 ^ bits == 0) e in
    let q = and_parts (has_keybits w.keybits bits) (in_span w.keys key) p.0 in
    record { keybits = keybits-fact w.keybits bits q.0; key = in_span-fact w.keys key q.1; multiple = eqb-true (key % 2 ^ bits) 0 p.1 }

pub key-test : (w : Row) (bits key : ℕ) → KeyFits w bits key → key_fits w bits key ≡ true
key-test w bits key h =
    and_from (has_keybits w.keybits bits && in_span w.keys key) (key % 2 ^ bits == 0)
    (and_from (has_keybits w.keybits bits) (in_span w.keys key) (keybits-test w.keybits bits h.keybits) (in_span-test w.keys key h.key))
    (eq-eqb (key % 2 ^ bits) 0 h.multiple)

pub place-fact : (radix place : ℕ) → place_fits radix place ≡ true → PlaceFits radix place
place-fact zero place e = eqb-true place 0 e
place-fact (suc n) place e =
    let p = and_parts (nat_lt 0 place && nat_lt place (2 ^ 34)) (place % 2 ^ suc n == 0) e in
    let q = and_parts (nat_lt 0 place) (nat_lt place (2 ^ 34)) p.0 in
    record { above = ltb-true 0 place q.0; below = ltb-true place (2 ^ 34) q.1; multiple = eqb-true (place % 2 ^ suc n) 0 p.1 }

pub place-test : (radix place : ℕ) → PlaceFits radix place → place_fits radix place ≡ true
place-test zero place h = eq-eqb place 0 h
place-test (suc n) place h =
    and_from (nat_lt 0 place && nat_lt place (2 ^ 34)) (place % 2 ^ suc n == 0)
    (and_from (nat_lt 0 place) (nat_lt place (2 ^ 34)) (lt-ltb 0 place h.above) (lt-ltb place (2 ^ 34) h.below))
    (eq-eqb (place % 2 ^ suc n) 0 h.multiple)

-- the length, the target and the number of an entry in its bytes are in their ranges
pub record IsEntryIn (names : Span) (b : Places) : Type 0 where
  pub len : InSpan names (number_at b 40 2)
  pub target : (b 42 ≡ 1) ⊎ (b 42 ≡ 2)
  pub number_above : 0 < number_at b 32 8
  pub number_below : number_at b 32 8 < 2 ^ 62

-- so they are, if the kind is an entry
abbrev pub EntryFitsIn : Option Span → Places → Type 0
EntryFitsIn None b = ⊤
EntryFitsIn (Some names) b = IsEntryIn names b

pub target-fact : (n : ℕ) → (n == 1 || n == 2) ≡ true → (n ≡ 1) ⊎ (n ≡ 2)
target-fact n e = elim (or_cases (n == 1) (n == 2) e) [
  | inl one ↦ inl (eqb-true n 1 one)
  | inr two ↦ inr (eqb-true n 2 two)
]

pub target-test : (n : ℕ) → (n ≡ 1) ⊎ (n ≡ 2) → (n == 1 || n == 2) ≡ true
target-test n (inl one) = or_left (n == 1) (n == 2) (eq-eqb n 1 one)
target-test n (inr two) = or_right (n == 1) (n == 2) (eq-eqb n 2 two)

pub entry-fact : (names : Option Span) (b : Places) → entry_fits_at names b ≡ true → EntryFitsIn names b
entry-fact None b e = tt
entry-fact (Some s) b e =
    let number = number_at b 32 8 in
    let p = and_parts (in_span s (number_at b 40 2) && (b 42 == 1 || b 42 == 2) && nat_lt 0 number) (nat_lt number (2 ^ 62)) e in
    let q = and_parts (in_span s (number_at b 40 2) && (b 42 == 1 || b 42 == 2)) (nat_lt 0 number) p.0 in
    let r = and_parts (in_span s (number_at b 40 2)) (b 42 == 1 || b 42 == 2) q.0 in
    record { len = in_span-fact s (number_at b 40 2) r.0; target = target-fact (b 42) r.1; number_above = ltb-true 0 number q.1; number_below = ltb-true number (2 ^ 62) p.1 }

pub entry-test : (names : Option Span) (b : Places) → EntryFitsIn names b → entry_fits_at names b ≡ true
entry-test None b h = refl
entry-test (Some s) b h =
    let number = number_at b 32 8 in
    and_from (in_span s (number_at b 40 2) && (b 42 == 1 || b 42 == 2) && nat_lt 0 number) (nat_lt number (2 ^ 62))
    (and_from (in_span s (number_at b 40 2) && (b 42 == 1 || b 42 == 2)) (nat_lt 0 number)
    (and_from (in_span s (number_at b 40 2)) (b 42 == 1 || b 42 == 2) (in_span-test s (number_at b 40 2) h.len) (target-test (b 42) h.target))
    (lt-ltb 0 number h.number_above))
    (lt-ltb number (2 ^ 62) h.number_below)
