-- The block of a header is seen by its 65536 places alone; it has one spelling, and spells one header at most.
use Rattle.std.specs.Prelude.{◌≡◌, ◌<◌, ◌≤◌, ℕ, ◌+◌, ◌*◌, ◌-◌, length, List}
use Rattle.std.proofs.Common.{ap, sym, ◌∙◌, arith, inl, inr}
use Rattle.std.proofs.lemmas.Bool.{cases_lt}
use Rattle.h2_num.specs.Places.{Places, AreBytes, SameBelow, from_place}
use Rattle.h2_num.specs.PlaceLaws.{number_same, zeros_same, number_bytes, zero_bytes}
use Rattle.h2_check.specs.CrcLaws.{crc32c_of-same}
use Rattle.h2_ref.specs.declared.reference.Ref.{Ref}
use Rattle.h2_ref.specs.Set.{RefsBytes}
use Rattle.h2_ref.specs.SetLaws.{RefsBytes-same, refs_spelling, refs_one}
use Rattle.h2_header.specs.declared.header.Header.{Header}
use Rattle.h2_header.specs.Header.{FrameBytes, NumberBytes, ValueBytes, HeadBytes, HasRefs, IsHeader, IsHeaderAt}

-- The block is seen by its places alone

frame_same : (a b : Places) → SameBelow 65536 a b → FrameBytes a → FrameBytes b
frame_same a b same f = record {
  magic = λ k lt. same k (omega arith) ∙ f.magic k lt;
  version = number_same 8 4 65536 a b (omega arith) same ∙ f.version;
  gap = zeros_same 40 512 65536 a b (omega arith) same f.gap;
  tail = zeros_same 2048 65532 65536 a b (omega arith) same f.tail;
  check = number_same 65532 4 65536 a b (omega arith) same ∙ f.check ∙ sym (crc32c_of-same a b 65532 (λ k lt. same k (omega arith)));
}

numbers_same : (h : Header) (a b : Places) → SameBelow 65536 a b → NumberBytes h a → NumberBytes h b
numbers_same h a b same f = record {
  zones = number_same 12 4 65536 a b (omega arith) same ∙ f.zones;
  number = number_same 16 8 65536 a b (omega arith) same ∙ f.number;
  map_number = number_same 24 8 65536 a b (omega arith) same ∙ f.map_number;
  next_pfs = number_same 32 8 65536 a b (omega arith) same ∙ f.next_pfs;
}

refs_same : (refs : List Ref) (at : ℕ) (a b : Places) → at + 128 * length refs ≤ 65536 → SameBelow 65536 a b → RefsBytes refs (from_place a at) → RefsBytes refs (from_place b at)
refs_same refs at a b le same = RefsBytes-same refs (from_place a at) (from_place b at) (λ k lt. same (at + k) (omega arith))

pub HeadBytes-same : (h : Header) (a b : Places) → length h.root ≡ 4 → length h.map ≡ 8 → SameBelow 65536 a b → HeadBytes h a → HeadBytes h b
HeadBytes-same h a b root_len map_len same f = record {
  frame = frame_same a b same f.frame;
  values = record {
    numbers = numbers_same h a b same f.values.numbers;
    root = refs_same h.root 512 a b (omega (arith, root_len)) same f.values.root;
    map = refs_same h.map 1024 a b (omega (arith, map_len)) same f.values.map;
  };
}

-- which header a block spells for a slot is seen by its 65536 places alone
pub IsHeaderAt-same : (slot : ℕ) (h : Header) (a b : Places) → SameBelow 65536 a b → IsHeaderAt slot a h → IsHeaderAt slot b h
IsHeaderAt-same slot h a b same f =
    record { valid = f.valid; spelled = HeadBytes-same h a b f.valid.root.length_is f.valid.map.length_is same f.spelled; in_turn = f.in_turn }

-- A header has one spelling

numbers_spelling : (h : Header) (a b : Places) → AreBytes a → AreBytes b → HeadBytes h a → HeadBytes h b → (k : ℕ) → k < 40 → b k ≡ a k
numbers_spelling h a b fa fb p q k lt = elim (cases_lt k 8) [
  | inl in_magic ↦ q.frame.magic k in_magic ∙ sym (p.frame.magic k in_magic)
  | inr from_8 ↦ elim (cases_lt k 12) [
    | inl in_version ↦ number_bytes a b 8 4 fa fb (p.frame.version ∙ sym q.frame.version) k from_8 in_version
    | inr from_12 ↦ elim (cases_lt k 16) [
      | inl in_zones ↦ number_bytes a b 12 4 fa fb (p.values.numbers.zones ∙ sym q.values.numbers.zones) k from_12 in_zones
      | inr from_16 ↦ elim (cases_lt k 24) [
        | inl in_number ↦ number_bytes a b 16 8 fa fb (p.values.numbers.number ∙ sym q.values.numbers.number) k from_16 in_number
        | inr from_24 ↦ elim (cases_lt k 32) [
          | inl in_map ↦ number_bytes a b 24 8 fa fb (p.values.numbers.map_number ∙ sym q.values.numbers.map_number) k from_24 in_map
          | inr from_32 ↦ number_bytes a b 32 8 fa fb (p.values.numbers.next_pfs ∙ sym q.values.numbers.next_pfs) k from_32 lt
        ]
      ]
    ]
  ]
]

refs_spelling_at : (refs : List Ref) (at n : ℕ) (a b : Places) → AreBytes a → AreBytes b → 128 * length refs ≡ n → RefsBytes refs (from_place a at) → RefsBytes refs (from_place b at)
    → (k : ℕ) → at ≤ k → k < at + n → b k ≡ a k
refs_spelling_at refs at n a b fa fb len p q k ge lt =
    let e : at + (k - at) ≡ k = omega arith in
    let same = refs_spelling refs (from_place a at) (from_place b at) (λ j. fa (at + j)) (λ j. fb (at + j)) p q (k - at) (omega arith) in
    ap b (sym e) ∙ same ∙ ap a e

checked_spelling : (h : Header) (a b : Places) → AreBytes a → AreBytes b → IsHeader h → HeadBytes h a → HeadBytes h b → (k : ℕ) → k < 65532 → b k ≡ a k
checked_spelling h a b fa fb valid p q k lt =
    let root_len : length h.root ≡ 4 = valid.root.length_is in
    let map_len : length h.map ≡ 8 = valid.map.length_is in
    elim (cases_lt k 40) [
      | inl in_numbers ↦ numbers_spelling h a b fa fb p q k in_numbers
      | inr from_40 ↦ elim (cases_lt k 512) [
        | inl in_gap ↦ zero_bytes a b 40 512 k p.frame.gap q.frame.gap from_40 in_gap
        | inr from_512 ↦ elim (cases_lt k 1024) [
          | inl in_root ↦ refs_spelling_at h.root 512 512 a b fa fb (omega arith) p.values.root q.values.root k from_512 in_root
          | inr from_1024 ↦ elim (cases_lt k 2048) [
            | inl in_map ↦ refs_spelling_at h.map 1024 1024 a b fa fb (omega arith) p.values.map q.values.map k from_1024 in_map
            | inr from_2048 ↦ zero_bytes a b 2048 65532 k p.frame.tail q.frame.tail from_2048 lt
          ]
        ]
      ]
    ]

-- a header has one spelling
pub header_spelling : (h : Header) (a b : Places) → AreBytes a → AreBytes b → IsHeader h → HeadBytes h a → HeadBytes h b → SameBelow 65536 a b
header_spelling h a b fa fb valid p q k lt =
    let checked : SameBelow 65532 a b = checked_spelling h a b fa fb valid p q in
    elim (cases_lt k 65532) [
      | inl low ↦ checked k low
      | inr high ↦ number_bytes a b 65532 4 fa fb (p.frame.check ∙ sym (crc32c_of-same a b 65532 checked) ∙ sym q.frame.check) k high lt
    ]

-- A block spells one header at most

-- the references of a header are valid
pub IsHeader-refs : (h : Header) → IsHeader h → HasRefs h
IsHeader-refs h valid = record {
  root_length = valid.root.length_is;
  root = λ i d lt. (valid.root.each i d lt).valid;
  map_length = valid.map.length_is;
  map = valid.map.valid;
}

-- the values of a header are read from its bytes
pub values_one : (g h : Header) (b : Places) → HasRefs g → HasRefs h → ValueBytes g b → ValueBytes h b → g ≡ h
values_one g h b refs_g refs_h p q =
    let number : g.number ≡ h.number = sym p.numbers.number ∙ q.numbers.number in
    let zones : g.zones ≡ h.zones = sym p.numbers.zones ∙ q.numbers.zones in
    let map_number : g.map_number ≡ h.map_number = sym p.numbers.map_number ∙ q.numbers.map_number in
    let next_pfs : g.next_pfs ≡ h.next_pfs = sym p.numbers.next_pfs ∙ q.numbers.next_pfs in
    let root : g.root ≡ h.root = refs_one h.root g.root (from_place b 512) (refs_g.root_length ∙ sym refs_h.root_length) refs_h.root refs_g.root q.root p.root in
    let map : g.map ≡ h.map = refs_one h.map g.map (from_place b 1024) (refs_g.map_length ∙ sym refs_h.map_length) refs_h.map refs_g.map q.map p.map in
    λ i. record { number = number i; zones = zones i; map_number = map_number i; next_pfs = next_pfs i; root = root i; map = map i }

-- a block spells one header at most
pub header_one : (g h : Header) (b : Places) → IsHeader g → IsHeader h → HeadBytes g b → HeadBytes h b → g ≡ h
header_one g h b valid_g valid_h p q = values_one g h b (IsHeader-refs g valid_g) (IsHeader-refs h valid_h) p.values q.values

-- the number stands in the eight bytes from 16 on, so that the headers of one block have one number
pub one_number : (slot other : ℕ) (g h : Header) (b : Places) → IsHeaderAt slot b g → IsHeaderAt other b h → g.number ≡ h.number
one_number slot other g h b p q = sym p.spelled.values.numbers.number ∙ q.spelled.values.numbers.number
