-- A block meets a refusal exactly where it is no header of its slot, and one refusal at most.
use Rattle.std.specs.Prelude.{◌≡◌, ◌<◌, ◌≤◌, ℕ, ◌+◌, ◌*◌, List, length, slice_index_or, refl}
use Rattle.std.proofs.Common.{ap, sym, ◌∙◌, subst, arith, inl, inr}
use Rattle.std.proofs.lemmas.Bool.{cases_lt}
use Rattle.h2_num.specs.Places.{Places, number_at, from_place, ZeroIn}
use Rattle.h2_geom.specs.Geometry.{IsZoneCount}
use Rattle.h2_ref.specs.declared.reference.Ref.{Ref}
use Rattle.h2_ref.specs.Ref.{empty_ref}
use Rattle.h2_ref.specs.Spelling.{one_value}
use Rattle.h2_ref.specs.Set.{MayFollow, RefsBytes}
use Rattle.h2_header.specs.declared.fault.HeadFault.{HeadFault}
use Rattle.h2_header.specs.declared.fault.HeadFault.TheVariants.{Field}
use Rattle.h2_header.specs.declared.header.Header.{Header}
use Rattle.h2_header.specs.Map.{IsMap, IsMapSlot}
use Rattle.h2_header.specs.Header.{IsRoot, IsHeaderAt, NoHeaderAt}
use Rattle.h2_header.specs.Reading.{IsFirstNonzero, IsFirstRoot, IsFirstMap}
use Rattle.h2_header.specs.Fault.{IsNumberOf, IsNextPfs, ref_bytes, IsRootAt, IsMapAt, IsWrongField, zones, number, map_number, next_pfs, gap, root, map, tail, NoneWrong, IsFirstWrong, IsHeadFault, bad_magic, bad_version, bad_check, bad_field}

-- A header has no wrong field

-- the references of a super-root are right where they stand
pub root_right : (b : Places) (refs : List Ref) → IsRoot refs → RefsBytes refs (from_place b 512) → (i : ℕ) → i < 4 → IsRootAt b i
root_right b refs is spelled i lt =
    let len : length refs ≡ 4 = is.length_is in
    let inside : i < length refs = omega arith in
    record {
      ref = slice_index_or refs i empty_ref;
      spelled = spelled i empty_ref inside;
      may = is.each i empty_ref inside;
      follows = λ j before next valid bytes.
          let near : j < length refs = omega arith in
          let more : j + 1 < length refs = omega arith in
          let same : slice_index_or refs j empty_ref ≡ before = one_value before (slice_index_or refs j empty_ref) (ref_bytes 512 j b) valid (is.each j empty_ref near).valid bytes (spelled j empty_ref near) in
          subst (λ r. MayFollow r (slice_index_or refs i empty_ref)) same
          (subst (λ n. MayFollow (slice_index_or refs j empty_ref) (slice_index_or refs n empty_ref)) next (is.set j empty_ref more));
    }

-- the references of a map are right where they stand
pub map_right : (b : Places) (z m : ℕ) (refs : List Ref) → z ≡ number_at b 12 4 → m ≡ number_at b 24 8 → IsMap z m refs → RefsBytes refs (from_place b 1024) → (i : ℕ) → i < 8 → IsMapAt b i
map_right b z m refs z_is m_is is spelled i lt =
    let len : length refs ≡ 8 = is.length_is in
    let inside : i < length refs = omega arith in
    record {
      ref = slice_index_or refs i empty_ref;
      spelled = spelled i empty_ref inside;
      valid = is.valid i empty_ref inside;
      names = subst (λ x. IsMapSlot x (number_at b 24 8) i (slice_index_or refs i empty_ref)) z_is (subst (λ x. IsMapSlot z x i (slice_index_or refs i empty_ref)) m_is (is.slots i empty_ref lt));
    }

-- a header has no wrong field
pub none_wrong : (slot : ℕ) (b : Places) (h : Header) (p : ℕ) → IsHeaderAt slot b h → IsWrongField slot b p → ⊥
none_wrong slot b h p at (zones e wrong) = wrong (subst IsZoneCount (sym at.spelled.values.numbers.zones) (at.valid.ranges.zones_low, at.valid.ranges.zones_high))
none_wrong slot b h p at (number e wrong) = wrong (subst (IsNumberOf slot) (sym at.spelled.values.numbers.number) (record { low = at.valid.ranges.number_low; high = at.valid.ranges.number_high; in_turn = at.in_turn }))
none_wrong slot b h p at (map_number e wrong) = wrong (at.spelled.values.numbers.map_number ∙ at.valid.ranges.map_number ∙ sym at.spelled.values.numbers.number)
none_wrong slot b h p at (next_pfs e wrong) = wrong (subst IsNextPfs (sym at.spelled.values.numbers.next_pfs) (record { low = at.valid.ranges.next_low; high = at.valid.ranges.next_high }))
none_wrong slot b h p at (gap ge lt wrong) = wrong (at.spelled.frame.gap p ge lt)
none_wrong slot b h p at (root i lt e wrong) = wrong (root_right b h.root at.valid.root at.spelled.values.root i lt)
none_wrong slot b h p at (map i lt e wrong) = wrong (map_right b h.zones h.map_number h.map (sym at.spelled.values.numbers.zones) (sym at.spelled.values.numbers.map_number) at.valid.map at.spelled.values.map i lt)
none_wrong slot b h p at (tail ge lt wrong) = wrong (at.spelled.frame.tail p ge lt)

-- a block that meets a refusal is no header of its slot
pub fault-none : (slot : ℕ) (b : Places) (f : HeadFault) → IsHeadFault slot b f → NoHeaderAt slot b
fault-none slot b _ (bad_magic wrong) h at = wrong at.spelled.frame.magic
fault-none slot b _ (bad_version magic wrong) h at = wrong at.spelled.frame.version
fault-none slot b _ (bad_check magic version wrong) h at = wrong at.spelled.frame.check
fault-none slot b _ (bad_field p magic version check first) h at = none_wrong slot b h p at first.here

-- a block meets one refusal at most

one_first : (slot : ℕ) (b : Places) (p q : ℕ) → IsFirstWrong slot b p → IsFirstWrong slot b q → q ≡ p
one_first slot b p q f g = elim (cases_lt p q) [
  | inl lt ↦ absurd (g.none_before p lt f.here)
  | inr ge ↦ elim (cases_lt q p) [
    | inl lt ↦ absurd (f.none_before q lt g.here)
    | inr le ↦ omega arith
  ]
]

pub one_fault : (slot : ℕ) (b : Places) (f g : HeadFault) → IsHeadFault slot b f → IsHeadFault slot b g → g ≡ f
one_fault slot b _ _ (bad_magic w) (bad_magic v) = refl
one_fault slot b _ _ (bad_magic w) (bad_version m v) = absurd (w m)
one_fault slot b _ _ (bad_magic w) (bad_check m e v) = absurd (w m)
one_fault slot b _ _ (bad_magic w) (bad_field p m e c v) = absurd (w m)
one_fault slot b _ _ (bad_version m w) (bad_magic v) = absurd (v m)
one_fault slot b _ _ (bad_version m w) (bad_version n v) = refl
one_fault slot b _ _ (bad_version m w) (bad_check n e v) = absurd (w e)
one_fault slot b _ _ (bad_version m w) (bad_field p n e c v) = absurd (w e)
one_fault slot b _ _ (bad_check m e w) (bad_magic v) = absurd (v m)
one_fault slot b _ _ (bad_check m e w) (bad_version n v) = absurd (v e)
one_fault slot b _ _ (bad_check m e w) (bad_check n d v) = refl
one_fault slot b _ _ (bad_check m e w) (bad_field p n d c v) = absurd (w c)
one_fault slot b _ _ (bad_field p m e c w) (bad_magic v) = absurd (v m)
one_fault slot b _ _ (bad_field p m e c w) (bad_version n v) = absurd (v e)
one_fault slot b _ _ (bad_field p m e c w) (bad_check n d v) = absurd (v c)
one_fault slot b _ _ (bad_field p m e c w) (bad_field q n d k v) = ap Field (one_first slot b p q w v)

-- Wrong fields, from the front on

-- the numbers are right
pub record HasNumbers (slot : ℕ) (b : Places) : Type 0 where
  pub zones : IsZoneCount (number_at b 12 4)
  pub number : IsNumberOf slot (number_at b 16 8)
  pub map_number : number_at b 24 8 ≡ number_at b 16 8
  pub next_pfs : IsNextPfs (number_at b 32 8)

-- nothing is wrong before the numbers
pub before_zones : (slot : ℕ) (b : Places) → NoneWrong slot b 12
before_zones slot b q lt (zones e w) = absurd (omega arith)
before_zones slot b q lt (number e w) = absurd (omega arith)
before_zones slot b q lt (map_number e w) = absurd (omega arith)
before_zones slot b q lt (next_pfs e w) = absurd (omega arith)
before_zones slot b q lt (gap ge l w) = absurd (omega arith)
before_zones slot b q lt (root i l e w) = absurd (omega arith)
before_zones slot b q lt (map i l e w) = absurd (omega arith)
before_zones slot b q lt (tail ge l w) = absurd (omega arith)

pub before_number : (slot : ℕ) (b : Places) → IsZoneCount (number_at b 12 4) → NoneWrong slot b 16
before_number slot b z q lt (zones e w) = w z
before_number slot b z q lt (number e w) = absurd (omega arith)
before_number slot b z q lt (map_number e w) = absurd (omega arith)
before_number slot b z q lt (next_pfs e w) = absurd (omega arith)
before_number slot b z q lt (gap ge l w) = absurd (omega arith)
before_number slot b z q lt (root i l e w) = absurd (omega arith)
before_number slot b z q lt (map i l e w) = absurd (omega arith)
before_number slot b z q lt (tail ge l w) = absurd (omega arith)

pub before_map_number : (slot : ℕ) (b : Places) → IsZoneCount (number_at b 12 4) → IsNumberOf slot (number_at b 16 8) → NoneWrong slot b 24
before_map_number slot b z n q lt (zones e w) = w z
before_map_number slot b z n q lt (number e w) = w n
before_map_number slot b z n q lt (map_number e w) = absurd (omega arith)
before_map_number slot b z n q lt (next_pfs e w) = absurd (omega arith)
before_map_number slot b z n q lt (gap ge l w) = absurd (omega arith)
before_map_number slot b z n q lt (root i l e w) = absurd (omega arith)
before_map_number slot b z n q lt (map i l e w) = absurd (omega arith)
before_map_number slot b z n q lt (tail ge l w) = absurd (omega arith)

pub before_next_pfs : (slot : ℕ) (b : Places) → IsZoneCount (number_at b 12 4) → IsNumberOf slot (number_at b 16 8) → number_at b 24 8 ≡ number_at b 16 8 → NoneWrong slot b 32
before_next_pfs slot b z n m q lt (zones e w) = w z
before_next_pfs slot b z n m q lt (number e w) = w n
before_next_pfs slot b z n m q lt (map_number e w) = w m
before_next_pfs slot b z n m q lt (next_pfs e w) = absurd (omega arith)
before_next_pfs slot b z n m q lt (gap ge l w) = absurd (omega arith)
before_next_pfs slot b z n m q lt (root i l e w) = absurd (omega arith)
before_next_pfs slot b z n m q lt (map i l e w) = absurd (omega arith)
before_next_pfs slot b z n m q lt (tail ge l w) = absurd (omega arith)

-- nothing is wrong before a place of the gap, behind right numbers and zeros
pub before_gap : (slot : ℕ) (b : Places) (at : ℕ) → at ≤ 512 → HasNumbers slot b → ZeroIn 40 at b → NoneWrong slot b at
before_gap slot b at le h z q lt (zones e w) = w h.zones
before_gap slot b at le h z q lt (number e w) = w h.number
before_gap slot b at le h z q lt (map_number e w) = w h.map_number
before_gap slot b at le h z q lt (next_pfs e w) = w h.next_pfs
before_gap slot b at le h z q lt (gap ge l w) = w (z q ge lt)
before_gap slot b at le h z q lt (root i l e w) = absurd (omega arith)
before_gap slot b at le h z q lt (map i l e w) = absurd (omega arith)
before_gap slot b at le h z q lt (tail ge l w) = absurd (omega arith)

-- nothing is wrong before a reference of the super-root, behind right ones
pub before_root : (slot : ℕ) (b : Places) (n : ℕ) → n ≤ 4 → NoneWrong slot b 512 → ((i : ℕ) → i < n → IsRootAt b i) → NoneWrong slot b (512 + 128 * n)
before_root slot b n le front right q lt wrong = elim (cases_lt q 512) [
  | inl low ↦ front q low wrong
  | inr high ↦ behind wrong high
]
  where
    behind : IsWrongField slot b q → 512 ≤ q → ⊥
    behind (zones e w) high = absurd (omega arith)
    behind (number e w) high = absurd (omega arith)
    behind (map_number e w) high = absurd (omega arith)
    behind (next_pfs e w) high = absurd (omega arith)
    behind (gap ge l w) high = absurd (omega arith)
    behind (root i l e w) high = w (right i (omega arith))
    behind (map i l e w) high = absurd (omega arith)
    behind (tail ge l w) high = absurd (omega arith)

-- nothing is wrong before a reference of the map, behind right ones
pub before_map : (slot : ℕ) (b : Places) (n : ℕ) → n ≤ 8 → NoneWrong slot b 1024 → ((i : ℕ) → i < n → IsMapAt b i) → NoneWrong slot b (1024 + 128 * n)
before_map slot b n le front right q lt wrong = elim (cases_lt q 1024) [
  | inl low ↦ front q low wrong
  | inr high ↦ behind wrong high
]
  where
    behind : IsWrongField slot b q → 1024 ≤ q → ⊥
    behind (zones e w) high = absurd (omega arith)
    behind (number e w) high = absurd (omega arith)
    behind (map_number e w) high = absurd (omega arith)
    behind (next_pfs e w) high = absurd (omega arith)
    behind (gap ge l w) high = absurd (omega arith)
    behind (root i l e w) high = absurd (omega arith)
    behind (map i l e w) high = w (right i (omega arith))
    behind (tail ge l w) high = absurd (omega arith)

-- nothing is wrong before a place of the tail, behind zeros
pub before_tail : (slot : ℕ) (b : Places) (at : ℕ) → NoneWrong slot b 2048 → ZeroIn 2048 at b → NoneWrong slot b at
before_tail slot b at front z q lt wrong = elim (cases_lt q 2048) [
  | inl low ↦ front q low wrong
  | inr high ↦ behind wrong high
]
  where
    behind : IsWrongField slot b q → 2048 ≤ q → ⊥
    behind (zones e w) high = absurd (omega arith)
    behind (number e w) high = absurd (omega arith)
    behind (map_number e w) high = absurd (omega arith)
    behind (next_pfs e w) high = absurd (omega arith)
    behind (gap ge l w) high = absurd (omega arith)
    behind (root i l e w) high = absurd (omega arith)
    behind (map i l e w) high = absurd (omega arith)
    behind (tail ge l w) high = w (z q high lt)

-- The first wrong field

pub wrong_gap : (slot : ℕ) (b : Places) (p : ℕ) → HasNumbers slot b → IsFirstNonzero 40 512 b p → IsFirstWrong slot b p
wrong_gap slot b p h f =
    let high : p < 512 = f.high in
    record { here = gap f.low f.high f.here; none_before = before_gap slot b p (omega arith) h f.zeros }

pub none_before_root : (slot : ℕ) (b : Places) → HasNumbers slot b → ZeroIn 40 512 b → NoneWrong slot b 512
none_before_root slot b h z = before_gap slot b 512 (omega arith) h z

pub wrong_root : (slot : ℕ) (b : Places) (p : ℕ) → HasNumbers slot b → ZeroIn 40 512 b → IsFirstRoot b p → IsFirstWrong slot b p
wrong_root slot b p h z f =
    let below : f.index < 4 = f.below in
    record { here = root f.index f.below f.place f.wrong; none_before = subst (NoneWrong slot b) (sym f.place) (before_root slot b f.index (omega arith) (none_before_root slot b h z) f.right) }

-- nothing is wrong before the map
pub none_before_map : (slot : ℕ) (b : Places) (refs : List Ref) → HasNumbers slot b → ZeroIn 40 512 b → IsRoot refs → RefsBytes refs (from_place b 512) → NoneWrong slot b 1024
none_before_map slot b refs h z is spelled = before_root slot b 4 (omega arith) (none_before_root slot b h z) (root_right b refs is spelled)

pub wrong_map : (slot : ℕ) (b : Places) (p : ℕ) → NoneWrong slot b 1024 → IsFirstMap b p → IsFirstWrong slot b p
wrong_map slot b p front f =
    let below : f.index < 8 = f.below in
    record { here = map f.index f.below f.place f.wrong; none_before = subst (NoneWrong slot b) (sym f.place) (before_map slot b f.index (omega arith) front f.right) }

pub wrong_tail : (slot : ℕ) (b : Places) (z m p : ℕ) (refs : List Ref) → NoneWrong slot b 1024 → z ≡ number_at b 12 4 → m ≡ number_at b 24 8 → IsMap z m refs → RefsBytes refs (from_place b 1024)
    → IsFirstNonzero 2048 65532 b p → IsFirstWrong slot b p
wrong_tail slot b z m p refs front z_is m_is is spelled f = record {
  here = tail f.low f.high f.here;
  none_before = before_tail slot b p (before_map slot b 8 (omega arith) front (map_right b z m refs z_is m_is is spelled)) f.zeros;
}
