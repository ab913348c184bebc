-- A reference has one spelling, and bytes spell one valid reference at most.
use Rattle.std.specs.Prelude.{◌≡◌, ◌<◌, ◌≤◌, ℕ, zero, suc, ◌+◌, ◌-◌, ◌%◌, true, length, slice_index, Option, Some, None, refl}
use Rattle.std.proofs.Common.{ap, sym, ◌∙◌, arith, inl, inr}
use Rattle.std.proofs.lemmas.Bool.{cases_lt, cases_Bool, cond-true, cond-false}
use Rattle.std.proofs.lemmas.List.{ext_get_or}
use Rattle.std.proofs.lemmas.Option.{same_Some}
use Rattle.h2_num.specs.Places.{Places, places, AreBytes, number_at, SameBelow, ZeroIn}
use Rattle.h2_num.specs.PlaceLaws.{number_bytes, zero_bytes}
use Rattle.h2_ref.specs.declared.reference.Check.{Check}
use Rattle.h2_ref.specs.declared.reference.Check.TheVariants.{Nothing, Crc, Xx}
use Rattle.h2_ref.specs.declared.reference.Dirent.{Dirent as Entry}
use Rattle.h2_ref.specs.declared.reference.Ref.{Ref}
use Rattle.h2_ref.specs.declared.table.Span.{Span}
use Rattle.h2_ref.specs.declared.table.Row.{Row}
use Rattle.h2_ref.specs.Table.{row_of}
use Rattle.h2_ref.specs.Limits.{row_limited}
use Rattle.h2_ref.specs.Methods.{method_of, check_value}
use Rattle.h2_ref.specs.Ref.{row, method_in, method_number, check_len, is_inline, inline_len, area_len, fields_end, EntryFits, EntryBytes, NameBytes, RefBytes, IsValid}
use Rattle.h2_ref.specs.Fault.{kind_of, radix_at, place_at}
use Rattle.h2_ref.specs.Reading.{check_of, name_at, dirent_at, ref_at}
use Rattle.h2_ref.specs.Spelled.{method_there, place_split, length-name_at, name_inline, name_outside}
use Rattle.h2_ref.specs.FaultLaws.{kind_back}

-- A reference has one spelling

-- the check area
area_bytes : (w : Row) (c : Check) (d : Option Entry) (a b : Places) → AreBytes a → AreBytes b → NameBytes w d a → NameBytes w d b
    → number_at a 64 (check_len c) ≡ check_value c → number_at b 64 (check_len c) ≡ check_value c
    → ZeroIn (64 + area_len w c d) 128 a → ZeroIn (64 + area_len w c d) 128 b → (k : ℕ) → 64 ≤ k → k < 128 → b k ≡ a k
area_bytes w c None a b fa fb p q ca cb za zb k ge lt = elim (cases_lt k (64 + check_len c)) [
  | inl in_check ↦ number_bytes a b 64 (check_len c) fa fb (ca ∙ sym cb) k ge in_check
  | inr behind ↦ zero_bytes a b (64 + check_len c) 128 k za zb behind lt
]
area_bytes w c (Some e) a b fa fb p q ca cb za zb k ge lt = elim (cases_Bool (is_inline w)) [
  | inl is ↦
      let used : area_len w c (Some e) ≡ e.len = cond-true (is_inline w) e.len (check_len c) is in
      let len : inline_len w e.len ≡ e.len = cond-true (is_inline w) e.len 0 is in
      elim (cases_lt k (64 + e.len)) [
        | inl in_name ↦
            let at : 64 + (k - 64) ≡ k = omega arith in
            let name_b = q (k - 64) (omega arith) (omega arith) in
            let name_a = p (k - 64) (omega arith) (omega arith) in
            ap b (sym at) ∙ name_b ∙ sym name_a ∙ ap a at
        | inr behind ↦ zero_bytes a b (64 + area_len w c (Some e)) 128 k za zb (omega arith) lt
      ]
  | inr isnt ↦
      let used : area_len w c (Some e) ≡ check_len c = cond-false (is_inline w) e.len (check_len c) isnt in
      elim (cases_lt k (64 + check_len c)) [
        | inl in_check ↦ number_bytes a b 64 (check_len c) fa fb (ca ∙ sym cb) k ge in_check
        | inr behind ↦ zero_bytes a b (64 + area_len w c (Some e)) 128 k za zb (omega arith) lt
      ]
]

-- the fields of an entry
entry_bytes : (d : Option Entry) (a b : Places) → AreBytes a → AreBytes b → EntryBytes d a → EntryBytes d b → ZeroIn (fields_end d) 64 a → ZeroIn (fields_end d) 64 b
    → (k : ℕ) → 32 ≤ k → k < 64 → b k ≡ a k
entry_bytes None a b fa fb p q za zb k ge lt = zero_bytes a b 32 64 k za zb ge lt
entry_bytes (Some e) a b fa fb p q za zb k ge lt = elim (cases_lt k 40) [
  | inl in_number ↦ number_bytes a b 32 8 fa fb (p.number ∙ sym q.number) k ge in_number
  | inr from_40 ↦ elim (cases_lt k 42) [
    | inl in_len ↦ number_bytes a b 40 2 fa fb (p.len ∙ sym q.len) k from_40 in_len
    | inr from_42 ↦ elim (cases_lt k 43) [
      | inl at_42 ↦ let e : k ≡ 42 = omega arith in rw e (q.target ∙ sym p.target)
      | inr behind ↦ zero_bytes a b 43 64 k za zb behind lt
    ]
  ]
]

bytes_from_4 : (r : Ref) (a b : Places) → AreBytes a → AreBytes b → RefBytes r a → RefBytes r b → (k : ℕ) → 4 ≤ k → k < 128 → b k ≡ a k
bytes_from_4 r a b fa fb p q k ge lt = elim (cases_lt k 8) [
  | inl in_gap ↦ zero_bytes a b 4 8 k p.gaps.before_key q.gaps.before_key ge in_gap
  | inr from_8 ↦ elim (cases_lt k 16) [
    | inl in_key ↦ number_bytes a b 8 8 fa fb (p.fields.key ∙ sym q.fields.key) k from_8 in_key
    | inr from_16 ↦ elim (cases_lt k 24) [
      | inl in_place ↦ number_bytes a b 16 8 fa fb (p.fields.place ∙ sym q.fields.place) k from_16 in_place
      | inr from_24 ↦ elim (cases_lt k 32) [
        | inl in_id ↦ number_bytes a b 24 8 fa fb (p.fields.id ∙ sym q.fields.id) k from_24 in_id
        | inr from_32 ↦ elim (cases_lt k 64) [
          | inl in_entry ↦ entry_bytes r.dirent a b fa fb p.fields.entry q.fields.entry p.gaps.before_area q.gaps.before_area k from_32 in_entry
          | inr from_64 ↦ area_bytes (row r) r.check r.dirent a b fa fb p.fields.name q.fields.name p.fields.check q.fields.check p.gaps.tail q.gaps.tail k from_64 lt
        ]
      ]
    ]
  ]
]

-- a reference has one spelling
pub one_spelling : (r : Ref) (a b : Places) → AreBytes a → AreBytes b → RefBytes r a → RefBytes r b → SameBelow 128 a b
one_spelling r a b fa fb p q zero lt = q.fields.kind ∙ sym p.fields.kind
one_spelling r a b fa fb p q (suc zero) lt = q.fields.method ∙ sym p.fields.method
one_spelling r a b fa fb p q (suc (suc zero)) lt = q.fields.keybits ∙ sym p.fields.keybits
one_spelling r a b fa fb p q (suc (suc (suc zero))) lt = q.fields.flags ∙ sym p.fields.flags
one_spelling r a b fa fb p q (suc (suc (suc (suc j)))) lt = bytes_from_4 r a b fa fb p q (suc (suc (suc (suc j)))) (omega arith) lt

-- Bytes spell one valid reference at most

check_back : (c : Check) (b : Places) → number_at b 64 (check_len c) ≡ check_value c → check_of (method_of c) b ≡ c
check_back Nothing b h = refl
check_back (Xx n) b h = ap Xx h
check_back (Crc n) b h = ap Crc h

-- a name is read back
name_back : (w : Row) (e : Entry) (b : Places) → length e.name ≡ 64 → ZeroIn (inline_len w e.len) 64 (places e.name)
    → ((k : ℕ) → k < 64 → k < inline_len w e.len → b (64 + k) ≡ slice_index e.name k) → (is_inline w ≡ true → ZeroIn (64 + e.len) 128 b) → name_at w b ≡ e.name
name_back w e b room ends name tail = ext_get_or 0 (name_at w b) e.name (length-name_at w b ∙ sym room) each
  where
    each : (k : ℕ) → k < length (name_at w b) → slice_index (name_at w b) k ≡ slice_index e.name k
    each k lt =
        let inside : k < 64 = omega (arith, length-name_at w b) in
        elim (cases_Bool (is_inline w)) [
          | inl is ↦
              let len : inline_len w e.len ≡ e.len = cond-true (is_inline w) e.len 0 is in
              elim (cases_lt k e.len) [
                | inl in_name ↦ name_inline w b k is inside ∙ name k inside (omega arith)
                | inr behind ↦ name_inline w b k is inside ∙ tail is (64 + k) (omega arith) (omega arith) ∙ sym (ends k (omega arith) inside)
              ]
          | inr isnt ↦
              let len : inline_len w e.len ≡ 0 = cond-false (is_inline w) e.len 0 isnt in
              name_outside w b k isnt ∙ sym (ends k (omega arith) inside)
        ]

-- what an entry says is read back
dirent_back : (w : Row) (names : Option Span) (d : Option Entry) (c : Check) (b : Places) → EntryFits w names d → EntryBytes d b → NameBytes w d b → ZeroIn (64 + area_len w c d) 128 b → dirent_at w names b ≡ d
dirent_back w None None c b h f n tail = refl
dirent_back w None (Some e) c b h f n tail = absurd h
dirent_back w (Some s) None c b h f n tail = absurd h
dirent_back w (Some s) (Some e) c b h f n tail =
    let name : name_at w b ≡ e.name = name_back w e b h.room h.name_ends n (λ is. let used : area_len w c (Some e) ≡ e.len = cond-true (is_inline w) e.len (check_len c) is in λ k ge lt. tail k (omega arith) lt) in
    let number = f.number in
    let len = f.len in
    let target = f.target in
    ap Some (λ i. record { number = number i; len = len i; target = target i; name = name i })

-- a valid reference is read from its bytes
pub read_back : (r : Ref) (b : Places) → IsValid r → RefBytes r b → ref_at r.kind b ≡ r
read_back r b h s =
    let w = row r in
    let f = s.fields in
    let limited = row_limited r.kind (method_number r.check) in
    let few : w.radix < 32 = limited.radix in
    let is_radix : r.radix ≡ w.radix = h.radix in
    let split : r.place % 64 ≡ 0 = place_split r.kind (method_number r.check) r.place h.place in
    let sum : number_at b 16 8 ≡ r.place + r.radix = f.place in
    let radix : radix_at b ≡ r.radix = omega arith in
    let place : place_at b ≡ r.place = omega arith in
    let check : check_of (method_in (row_of r.kind (b 1)).methods (b 1)) b ≡ r.check =
    ap (λ n. check_of (method_in (row_of r.kind n).methods n) b) f.method ∙ ap (λ m. check_of m b) (method_there w.methods r.check h.method) ∙ check_back r.check b f.check in
    let dirent : dirent_at (row_of r.kind (b 1)) (row_of r.kind (b 1)).names b ≡ r.dirent =
    ap (λ m. dirent_at (row_of r.kind m) (row_of r.kind m).names b) f.method ∙ dirent_back w w.names r.dirent r.check b h.entry f.entry f.name s.gaps.tail in
    let key = f.key in
    let keybits = f.keybits in
    let id = f.id in
    λ i. record { kind = r.kind; key = key i; keybits = keybits i; place = place i; radix = radix i; id = id i; check = check i; dirent = dirent i }

kind_one : (r s : Ref) (b : Places) → RefBytes r b → RefBytes s b → s.kind ≡ r.kind
kind_one r s b p q = same_Some s.kind r.kind (sym (kind_back s.kind) ∙ ap kind_of (sym q.fields.kind ∙ p.fields.kind) ∙ kind_back r.kind)

-- bytes spell one valid reference at most
pub one_value : (r s : Ref) (b : Places) → IsValid r → IsValid s → RefBytes r b → RefBytes s b → s ≡ r
one_value r s b valid_r valid_s p q = sym (read_back s b valid_s q) ∙ ap (λ k. ref_at k b) (kind_one r s b p q) ∙ read_back r b valid_r p
