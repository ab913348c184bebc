-- Bytes that pass the tests of their row spell the reference that stands in them, and spelled bytes pass.
use Rattle.std.specs.Prelude.{◌≡◌, ◌⊎◌, ◌<◌, ℕ, zero, suc, true, false, ◌+◌, ◌*◌, ◌%◌, ◌^◌, ◌==◌, if◌then◌else◌, List, length, slice_index, replicate, Option, Some, None, refl}
use Rattle.std.proofs.Common.{ap, sym, ◌∙◌, subst, arith, inl, inr}
use Rattle.std.proofs.lemmas.Bool.{cases_lt, cases_Bool, cond-true, cond-false, eqb-true, eq-eqb, both_ways}
use Rattle.std.proofs.lemmas.List.{get_or-replicate, get_or_past, length-replicate}
use Rattle.h2_num.specs.Places.{Places, places, AreBytes, number_at, ZeroIn}
use Rattle.h2_ref.specs.declared.reference.Kind.{Kind}
use Rattle.h2_ref.specs.declared.reference.Kind.TheVariants.{Empty, Inode, Indirect, Content, Dirent, MapNode, MapLeaf}
use Rattle.h2_ref.specs.declared.reference.Check.{Check}
use Rattle.h2_ref.specs.declared.reference.Dirent.{Dirent as Entry}
use Rattle.h2_ref.specs.declared.reference.Ref.{Ref}
use Rattle.h2_ref.specs.declared.table.Span.{Span}
use Rattle.h2_ref.specs.declared.methods.Method.{Method}
use Rattle.h2_ref.specs.declared.methods.Method.TheVariants.{Absent, Xxhash64, Freemap}
use Rattle.h2_ref.specs.declared.table.Methods.{Methods}
use Rattle.h2_ref.specs.declared.table.Methods.TheVariants.{One, Two}
use Rattle.h2_ref.specs.declared.table.Row.{Row}
use Rattle.h2_ref.specs.Methods.{method_of, method_row, check_with, check_value}
use Rattle.h2_ref.specs.Table.{row_of}
use Rattle.h2_ref.specs.Limits.{row_limited}
use Rattle.h2_ref.specs.Ref.{FitsRow, kind_number, method_in, method_number, check_len, row, IsMethodOf, IsStored, PlaceFits, InSpan, KeyFits, is_inline, inline_len, EntryFits, IsValid, area_len, fields_end, EntryBytes, NameBytes, RefBytes}
use Rattle.h2_ref.specs.Fault.{area_len_at, fields_end_at, radix_at, place_at}
use Rattle.h2_ref.specs.Reading.{bytes_from, check_of, name_at, dirent_at, ref_at}
use Rattle.h2_ref.specs.Tests.{EntryFitsIn}
use Rattle.h2_ref.specs.Passing.{Passes}

-- n bytes are a number below 256 ^ n
pub number_below : (b : Places) (at n : ℕ) → AreBytes b → number_at b at n < 256 ^ n
number_below b at zero bytes = omega arith
number_below b at (suc n) bytes =
    let low = bytes at in
    let rest = number_below b (suc at) n bytes in
    let e : 256 ^ suc n ≡ 256 * 256 ^ n = omega arith in
    omega arith

-- The list of bytes

pub length-bytes_from : (b : Places) (at n : ℕ) → length (bytes_from b at n) ≡ n
unfolding bytes_from
length-bytes_from b at zero = refl
length-bytes_from b at (suc n) = ap suc (length-bytes_from b (suc at) n)

pub bytes_from-at : (b : Places) (at n k : ℕ) → k < n → slice_index (bytes_from b at n) k ≡ b (at + k)
unfolding bytes_from
bytes_from-at b at zero k lt = absurd (omega arith)
bytes_from-at b at (suc n) zero lt = ap b (omega arith)
bytes_from-at b at (suc n) (suc k) lt = bytes_from-at b (suc at) n k (omega arith) ∙ ap b (omega arith)

pub zeros_at : (n k : ℕ) → places (replicate n 0) k ≡ 0
zeros_at n k = elim (cases_lt k n) [
  | inl lt ↦ get_or-replicate n k 0 0 lt
  | inr ge ↦ get_or_past (replicate n 0) k 0 (omega (arith, length-replicate {A = ℕ} n 0))
]

pub length-name_at : (w : Row) (b : Places) → length (name_at w b) ≡ 64
length-name_at w b = elim (cases_Bool (is_inline w)) [
  | inl is ↦ ap length (cond-true (is_inline w) (bytes_from b 64 64) (replicate 64 0) is) ∙ length-bytes_from b 64 64
  | inr isnt ↦ ap length (cond-false (is_inline w) (bytes_from b 64 64) (replicate 64 0) isnt) ∙ length-replicate {A = ℕ} 64 0
]

pub name_inline : (w : Row) (b : Places) (k : ℕ) → is_inline w ≡ true → k < 64 → slice_index (name_at w b) k ≡ b (64 + k)
name_inline w b k is lt = ap (λ (l : List ℕ). slice_index l k) (cond-true (is_inline w) (bytes_from b 64 64) (replicate 64 0) is) ∙ bytes_from-at b 64 64 k lt

pub name_outside : (w : Row) (b : Places) (k : ℕ) → is_inline w ≡ false → slice_index (name_at w b) k ≡ 0
name_outside w b k isnt = ap (λ (l : List ℕ). slice_index l k) (cond-false (is_inline w) (bytes_from b 64 64) (replicate 64 0) isnt) ∙ zeros_at 64 k

-- Bytes that pass spell a reference

method_back : (m : Method) (value : ℕ) → method_of (check_with m value) ≡ m
method_back Absent value = refl
method_back Xxhash64 value = refl
method_back Freemap value = refl

number_back : (m : Method) (b : Places) → method_number (check_of m b) ≡ (method_row m).number
number_back m b = ap (λ m. (method_row m).number) (method_back m _)

check_len_back : (m : Method) (b : Places) → check_len (check_of m b) ≡ (method_row m).area
check_len_back m b = ap (λ m. (method_row m).area) (method_back m _)

stored : (m : Method) (b : Places) → AreBytes b → IsStored (check_of m b)
stored Absent b bytes = omega arith
stored Xxhash64 b bytes = number_below b 64 (method_row Xxhash64).area bytes
stored Freemap b bytes = number_below b 64 (method_row Freemap).area bytes

check_there : (m : Method) (b : Places) → number_at b 64 (check_len (check_of m b)) ≡ check_value (check_of m b)
check_there Absent b = refl
check_there Xxhash64 b = refl
check_there Freemap b = refl

-- the method that is found has the number
found_number : (ms : Methods) (n : ℕ) → IsMethodOf ms n → (method_row (method_in ms n)).number ≡ n
found_number (One a) n h = sym h
found_number (Two a b) n h = elim (cases_Bool (n == (method_row a).number)) [
  | inl is ↦ ap (λ m. (method_row m).number) (cond-true (n == (method_row a).number) a b is) ∙ sym (eqb-true n (method_row a).number is)
  | inr isnt ↦ ap (λ m. (method_row m).number) (cond-false (n == (method_row a).number) a b isnt) ∙ sym (second h isnt)
]
  where
    second : (n ≡ (method_row a).number) ⊎ (n ≡ (method_row b).number) → (n == (method_row a).number) ≡ false → n ≡ (method_row b).number
    second (inl one) isnt = absurd (both_ways (n == (method_row a).number) isnt (eq-eqb n (method_row a).number one))
    second (inr two) isnt = two

-- how much of the check area is in use
area_back : (w : Row) (names : Option Span) (b : Places) → area_len w (check_of (method_in w.methods (b 1)) b) (dirent_at w names b) ≡ area_len_at w names b
area_back w None b = check_len_back (method_in w.methods (b 1)) b
area_back w (Some s) b = ap (λ n. if is_inline w then number_at b 40 2 else n) (check_len_back (method_in w.methods (b 1)) b)

end_back : (w : Row) (names : Option Span) (b : Places) → fields_end (dirent_at w names b) ≡ fields_end_at names
end_back w None b = refl
end_back w (Some s) b = refl

name_ends : (w : Row) (names : Span) (b : Places) → ZeroIn (64 + area_len_at w (Some names) b) 128 b → ZeroIn (inline_len w (number_at b 40 2)) 64 (places (name_at w b))
name_ends w names b tail k ge lt = elim (cases_Bool (is_inline w)) [
  | inl is ↦
      let used : area_len_at w (Some names) b ≡ number_at b 40 2 = cond-true (is_inline w) (number_at b 40 2) (method_row (method_in w.methods (b 1))).area is in
      let len : inline_len w (number_at b 40 2) ≡ number_at b 40 2 = cond-true (is_inline w) (number_at b 40 2) 0 is in
      name_inline w b k is lt ∙ tail (64 + k) (omega arith) (omega arith)
  | inr isnt ↦ name_outside w b k isnt
]

entry_back : (w : Row) (names : Option Span) (b : Places) → EntryFitsIn names b → ZeroIn (64 + area_len_at w names b) 128 b → EntryFits w names (dirent_at w names b)
entry_back w None b h tail = tt
entry_back w (Some s) b h tail = record {
  len = h.len;
  target = h.target;
  number_above = h.number_above;
  number_below = h.number_below;
  room = length-name_at w b;
  name_ends = name_ends w s b tail;
}

entry_there : (w : Row) (names : Option Span) (b : Places) → EntryBytes (dirent_at w names b) b
entry_there w None b = tt
entry_there w (Some s) b = record { number = refl; len = refl; target = refl }

name_there : (w : Row) (names : Option Span) (b : Places) → NameBytes w (dirent_at w names b) b
name_there w None b = tt
name_there w (Some s) b = λ k short lt. elim (cases_Bool (is_inline w)) [
  | inl is ↦ sym (name_inline w b k is short)
  | inr isnt ↦ let len : inline_len w (number_at b 40 2) ≡ 0 = cond-false (is_inline w) (number_at b 40 2) 0 isnt in absurd (omega arith)
]

-- bytes of a kind that pass the tests of their row spell the reference that stands in them, and it is valid
pub spell : (k : Kind) (b : Places) → AreBytes b → b 0 ≡ kind_number k → Passes (row_of k (b 1)) b → IsValid (ref_at k b) × RefBytes (ref_at k b) b
spell k b bytes kind p =
    let w = row_of k (b 1) in
    let r = ref_at k b in
    let method = method_in w.methods (b 1) in
    let same : b 1 ≡ method_number r.check = sym (found_number w.methods (b 1) p.method) ∙ sym (number_back method b) in
    let used = area_back w w.names b in
    let fits : FitsRow w r = record {
      method = subst (IsMethodOf w.methods) same p.method;
      stored = stored method b bytes;
      radix = p.radix;
      place = p.place;
      key = p.key;
      id = p.id;
      entry = entry_back w w.names b p.entry p.tail;
    } in (
      subst (λ m. FitsRow (row_of k m) r) same fits,
      record {
        fields = record {
          kind = kind;
          method = same;
          keybits = refl;
          flags = subst (λ m. b 3 ≡ (row_of k m).flags.0) same p.flags;
          key = refl;
          place = omega arith;
          id = refl;
          entry = entry_there w w.names b;
          name = subst (λ m. NameBytes (row_of k m) r.dirent b) same (name_there w w.names b);
          check = check_there method b;
        };
        gaps = record {
          before_key = p.before_key;
          before_area = λ at ge lt. p.before_area at (omega (arith, end_back w w.names b)) lt;
          tail = subst (λ m. ZeroIn (64 + area_len (row_of k m) r.check r.dirent) 128 b) same (λ at ge lt. p.tail at (omega (arith, used)) lt);
        };
      },
    )

-- Spelled bytes pass

-- the low six bits of a place are free for the radix
pub place_split : (k : Kind) (m place : ℕ) → PlaceFits (row_of k m).radix place → place % 64 ≡ 0
place_split Empty m place h = rw h refl
place_split Inode m place h = let e : place % 1024 ≡ 0 = h.multiple in omega arith
place_split Indirect m place h = let e : place % 4096 ≡ 0 = h.multiple in omega arith
place_split Content m place h = let e : place % 16384 ≡ 0 = h.multiple in omega arith
place_split Dirent zero place h = rw h refl
place_split Dirent (suc m) place h = let e : place % 1024 ≡ 0 = h.multiple in omega arith
place_split MapNode m place h = let e : place % 1024 ≡ 0 = h.multiple in omega arith
place_split MapLeaf m place h = let e : place % 1024 ≡ 0 = h.multiple in omega arith

-- the method with a number
abbrev method_numbered : ℕ → Method
method_numbered n = if n == (method_row Xxhash64).number then Xxhash64 else if n == (method_row Freemap).number then Freemap else Absent

numbered_back : (m : Method) → method_numbered (method_row m).number ≡ m
numbered_back Absent = refl
numbered_back Xxhash64 = refl
numbered_back Freemap = refl

-- no two methods have one number, so a check's method is found by its number
pub method_there : (ms : Methods) (check : Check) → IsMethodOf ms (method_number check) → method_in ms (method_number check) ≡ method_of check
method_there ms check h =
    let found = method_in ms (method_number check) in
    sym (numbered_back found) ∙ ap method_numbered (found_number ms (method_number check) h) ∙ numbered_back (method_of check)

entry_in : (w : Row) (names : Option Span) (d : Option Entry) (b : Places) → EntryFits w names d → EntryBytes d b → EntryFitsIn names b
entry_in w None d b h f = tt
entry_in w (Some s) None b h f = absurd h
entry_in w (Some s) (Some e) b h f = record {
  len = subst (InSpan s) (sym f.len) h.len;
  target = subst (λ n. (n ≡ 1) ⊎ (n ≡ 2)) (sym f.target) h.target;
  number_above = subst (λ n. 0 < n) (sym f.number) h.number_above;
  number_below = subst (λ n. n < 2 ^ 62) (sym f.number) h.number_below;
}

area_in : (w : Row) (names : Option Span) (d : Option Entry) (check : Check) (b : Places) → (method_row (method_in w.methods (b 1))).area ≡ check_len check → EntryFits w names d → EntryBytes d b → area_len_at w names b ≡ area_len w check d
area_in w None None check b len h f = len
area_in w None (Some e) check b len h f = absurd h
area_in w (Some s) None check b len h f = absurd h
area_in w (Some s) (Some e) check b len h f = ap (λ n. if is_inline w then n else (method_row (method_in w.methods (b 1))).area) f.len ∙ ap (λ n. if is_inline w then e.len else n) len

end_in : (w : Row) (names : Option Span) (d : Option Entry) → EntryFits w names d → fields_end_at names ≡ fields_end d
end_in w None None h = refl
end_in w None (Some e) h = absurd h
end_in w (Some s) None h = absurd h
end_in w (Some s) (Some e) h = refl

-- the bytes of a valid reference pass the tests of its row
pass_row : (r : Ref) (b : Places) → IsValid r → RefBytes r b → Passes (row r) b
pass_row r b h s =
    let w = row r in
    let f = s.fields in
    let limited = row_limited r.kind (method_number r.check) in
    let few : w.radix < 32 = limited.radix in
    let radix : r.radix ≡ w.radix = h.radix in
    let split : r.place % 64 ≡ 0 = place_split r.kind (method_number r.check) r.place h.place in
    let sum : number_at b 16 8 ≡ r.place + r.radix = f.place in
    let low : radix_at b ≡ w.radix = omega arith in
    let high : r.place ≡ place_at b = omega arith in
    let len : (method_row (method_in w.methods (b 1))).area ≡ check_len r.check =
    ap (λ n. (method_row (method_in w.methods n)).area) f.method ∙ ap (λ m. (method_row m).area) (method_there w.methods r.check h.method) in
    record {
      method = subst (IsMethodOf w.methods) (sym f.method) h.method;
      flags = f.flags;
      radix = low;
      place = subst (PlaceFits w.radix) high h.place;
      key = subst (λ k. KeyFits w (b 2) k) (sym f.key) (subst (λ n. KeyFits w n r.key) (sym f.keybits) h.key);
      id = subst (InSpan w.ids) (sym f.id) h.id;
      entry = entry_in w w.names r.dirent b h.entry f.entry;
      before_key = s.gaps.before_key;
      before_area = λ at ge lt. s.gaps.before_area at (omega (arith, end_in w w.names r.dirent h.entry)) lt;
      tail = λ at ge lt. s.gaps.tail at (omega (arith, area_in w w.names r.dirent r.check b len h.entry f.entry)) lt;
    }

-- the bytes of a valid reference pass the tests of the row that they name
pub pass_spelled : (r : Ref) (b : Places) → IsValid r → RefBytes r b → Passes (row_of r.kind (b 1)) b
pass_spelled r b h s = subst (λ m. Passes (row_of r.kind m) b) (sym s.fields.method) (pass_row r b h s)
