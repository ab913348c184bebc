-- Validity as a test, for models that need a Bool, and that it is the same as the fact.
use Rattle.std.specs.Prelude.{◌≡◌, ◌↔◌, ℕ, zero, suc, Bool, true, false, ◌&&◌, ◌||◌, ◌*◌, ◌^◌, ◌==◌, nat_lt, length, Option, Some, None, refl}
use Rattle.std.proofs.Common.{arith, inl, inr}
use Rattle.std.proofs.lemmas.Bool.{cases_lt, and_parts, and_from, or_cases, or_left, or_right, false≢true, ltb-true, lt-ltb, eqb-true, eq-eqb}
use Rattle.h2_num.specs.Places.{Places, places, ZeroIn}
use Rattle.h2_ref.specs.declared.reference.Check.{Check}
use Rattle.h2_ref.specs.declared.reference.Dirent.{Dirent as Entry}
use Rattle.h2_ref.specs.declared.reference.Ref.{Ref}
use Rattle.h2_ref.specs.declared.table.Span.{Span}
use Rattle.h2_ref.specs.declared.table.Row.{Row}
use Rattle.h2_ref.specs.Methods.{check_value}
use Rattle.h2_ref.specs.Ref.{method_number, check_len, row, inline_len, IsEntry, EntryFits, FitsRow, IsValid}
use Rattle.h2_ref.specs.Fault.{in_span, is_method_of, key_fits, place_fits}
use Rattle.h2_ref.specs.Tests.{in_span-fact, in_span-test, method-fact, method-test, key-fact, key-test, place-fact, place-test, target-fact, target-test}

-- The test

-- the places from one on, of the first n, are zero
unfoldable pub is_zero_from : ℕ → ℕ → Places → Bool
is_zero_from from zero b = true
is_zero_from from (suc n) b = is_zero_from from n b && (nat_lt n from || b n == 0)

-- a check's number has so many bytes as the check
abbrev pub is_stored : Check → Bool
is_stored check = nat_lt (check_value check) (2 ^ (8 * check_len check))

-- what an entry of a directory says is in its ranges
abbrev pub is_entry : Row → Span → Entry → Bool
is_entry w names e =
    in_span names e.len && (e.target == 1 || e.target == 2) && nat_lt 0 e.number && nat_lt e.number (2 ^ 62) && length e.name == 64 && is_zero_from (inline_len w e.len) 64 (places e.name)

-- there is an entry exactly where the kind is one, and what it says is in its ranges
abbrev pub entry_fits : Row → Option Span → Option Entry → Bool
entry_fits w None None = true
entry_fits w None (Some e) = false
entry_fits w (Some names) None = false
entry_fits w (Some names) (Some e) = is_entry w names e

-- a row of the table allows the reference
abbrev pub fits_row : Row → Ref → Bool
fits_row w r =
    is_method_of w.methods (method_number r.check) && is_stored r.check && r.radix == w.radix && place_fits w.radix r.place && key_fits w r.keybits r.key && in_span w.ids r.id && entry_fits w w.names r.dirent

-- the row of its kind and method allows it
abbrev pub passes_as_valid : Ref → Bool
passes_as_valid r = fits_row (row r) r

-- The test and the fact are the same

zero-fact : (from n : ℕ) (b : Places) → is_zero_from from n b ≡ true → ZeroIn from n b
unfolding is_zero_from
zero-fact from zero b e k ge lt = absurd (omega arith)
zero-fact from (suc n) b e k ge lt =
    let p = and_parts (is_zero_from from n b) (nat_lt n from || b n == 0) e in
    elim (cases_lt k n) [
      | inl below ↦ zero-fact from n b p.0 k ge below
      | inr last ↦
          let at : k ≡ n = omega arith in
          rw at (elim (or_cases (nat_lt n from) (b n == 0) p.1) [
            | inl before ↦ let lt_from = ltb-true n from before in absurd (omega arith)
            | inr is ↦ eqb-true (b n) 0 is
          ])
    ]

zero-test : (from n : ℕ) (b : Places) → ZeroIn from n b → is_zero_from from n b ≡ true
unfolding is_zero_from
zero-test from zero b h = refl
zero-test from (suc n) b h =
    and_from (is_zero_from from n b) (nat_lt n from || b n == 0) (zero-test from n b (λ k ge lt. h k ge (omega arith)))
    (elim (cases_lt n from) [
      | inl before ↦ or_left (nat_lt n from) (b n == 0) (lt-ltb n from before)
      | inr behind ↦ or_right (nat_lt n from) (b n == 0) (eq-eqb (b n) 0 (h n behind (omega arith)))
    ])

entry-fact : (w : Row) (names : Span) (e : Entry) → is_entry w names e ≡ true → IsEntry w names e
entry-fact w names e test =
    let zeros = is_zero_from (inline_len w e.len) 64 (places e.name) in
    let target = e.target == 1 || e.target == 2 in
    let p5 = and_parts (in_span names e.len && target && nat_lt 0 e.number && nat_lt e.number (2 ^ 62) && length e.name == 64) zeros test in
    let p4 = and_parts (in_span names e.len && target && nat_lt 0 e.number && nat_lt e.number (2 ^ 62)) (length e.name == 64) p5.0 in
    let p3 = and_parts (in_span names e.len && target && nat_lt 0 e.number) (nat_lt e.number (2 ^ 62)) p4.0 in
    let p2 = and_parts (in_span names e.len && target) (nat_lt 0 e.number) p3.0 in
    let p1 = and_parts (in_span names e.len) target p2.0 in
    record {
      len = in_span-fact names e.len p1.0;
      target = target-fact e.target p1.1;
      number_above = ltb-true 0 e.number p2.1;
      number_below = ltb-true e.number (2 ^ 62) p3.1;
      room = eqb-true (length e.name) 64 p4.1;
      name_ends = zero-fact (inline_len w e.len) 64 (places e.name) p5.1;
    }

entry-test : (w : Row) (names : Span) (e : Entry) → IsEntry w names e → is_entry w names e ≡ true
entry-test w names e h =
    let zeros = is_zero_from (inline_len w e.len) 64 (places e.name) in
    let target = e.target == 1 || e.target == 2 in
    and_from (in_span names e.len && target && nat_lt 0 e.number && nat_lt e.number (2 ^ 62) && length e.name == 64) zeros
    (and_from (in_span names e.len && target && nat_lt 0 e.number && nat_lt e.number (2 ^ 62)) (length e.name == 64)
    (and_from (in_span names e.len && target && nat_lt 0 e.number) (nat_lt e.number (2 ^ 62))
    (and_from (in_span names e.len && target) (nat_lt 0 e.number)
    (and_from (in_span names e.len) target (in_span-test names e.len h.len) (target-test e.target h.target))
    (lt-ltb 0 e.number h.number_above))
    (lt-ltb e.number (2 ^ 62) h.number_below))
    (eq-eqb (length e.name) 64 h.room))
    (zero-test (inline_len w e.len) 64 (places e.name) h.name_ends)

entry_fits-fact : (w : Row) (names : Option Span) (d : Option Entry) → entry_fits w names d ≡ true → EntryFits w names d
entry_fits-fact w None None e = tt
entry_fits-fact w None (Some d) e = absurd (false≢true e)
entry_fits-fact w (Some s) None e = absurd (false≢true e)
entry_fits-fact w (Some s) (Some d) e = entry-fact w s d e

entry_fits-test : (w : Row) (names : Option Span) (d : Option Entry) → EntryFits w names d → entry_fits w names d ≡ true
entry_fits-test w None None h = refl
entry_fits-test w None (Some d) h = absurd h
entry_fits-test w (Some s) None h = absurd h
entry_fits-test w (Some s) (Some d) h = entry-test w s d h

row-fact : (w : Row) (r : Ref) → fits_row w r ≡ true → FitsRow w r
row-fact w r e =
    let method = is_method_of w.methods (method_number r.check) in
    let radix = r.radix == w.radix in
    let place = place_fits w.radix r.place in
    let key = key_fits w r.keybits r.key in
    let id = in_span w.ids r.id in
    let p6 = and_parts (method && is_stored r.check && radix && place && key && id) (entry_fits w w.names r.dirent) e in
    let p5 = and_parts (method && is_stored r.check && radix && place && key) id p6.0 in
    let p4 = and_parts (method && is_stored r.check && radix && place) key p5.0 in
    let p3 = and_parts (method && is_stored r.check && radix) place p4.0 in
    let p2 = and_parts (method && is_stored r.check) radix p3.0 in
    let p1 = and_parts method (is_stored r.check) p2.0 in
    record {
      method = method-fact w.methods (method_number r.check) p1.0;
      stored = ltb-true (check_value r.check) (2 ^ (8 * check_len r.check)) p1.1;
      radix = eqb-true r.radix w.radix p2.1;
      place = place-fact w.radix r.place p3.1;
      key = key-fact w r.keybits r.key p4.1;
      id = in_span-fact w.ids r.id p5.1;
      entry = entry_fits-fact w w.names r.dirent p6.1;
    }

row-test : (w : Row) (r : Ref) → FitsRow w r → fits_row w r ≡ true
row-test w r h =
    let method = is_method_of w.methods (method_number r.check) in
    let radix = r.radix == w.radix in
    let place = place_fits w.radix r.place in
    let key = key_fits w r.keybits r.key in
    let id = in_span w.ids r.id in
    and_from (method && is_stored r.check && radix && place && key && id) (entry_fits w w.names r.dirent)
    (and_from (method && is_stored r.check && radix && place && key) id
    (and_from (method && is_stored r.check && radix && place) key
    (and_from (method && is_stored r.check && radix) place
    (and_from (method && is_stored r.check) radix
    (and_from method (is_stored r.check) (method-test w.methods (method_number r.check) h.method) (lt-ltb (check_value r.check) (2 ^ (8 * check_len r.check)) h.stored))
    (eq-eqb r.radix w.radix h.radix))
    (place-test w.radix r.place h.place))
    (key-test w r.keybits r.key h.key))
    (in_span-test w.ids r.id h.id))
    (entry_fits-test w w.names r.dirent h.entry)

-- a reference passes exactly where it is valid
pub valid-tested : (r : Ref) → (passes_as_valid r ≡ true) ↔ IsValid r
valid-tested r = (row-fact (row r) r, row-test (row r) r)
