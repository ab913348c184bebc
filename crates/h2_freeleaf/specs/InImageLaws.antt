-- An image and a header have one list of codes at most, which depends on the bytes of the map's blocks alone.
use Rattle.std.specs.Prelude.{◌≡◌, ◌<◌, ◌≤◌, ℕ, zero, suc, ◌+◌, ◌-◌, ◌*◌, ◌/◌, ◌%◌, nat_le, List, [], length, slice_index_or}
use Rattle.std.proofs.Common.{ap, sym, ◌∙◌, subst, arith, inl, inr}
use Rattle.std.proofs.lemmas.Bool.{cases_Bool, leb-true, leb-false}
use Rattle.std.proofs.lemmas.List.{ext_get_or}
use Rattle.h2_num.specs.Places.{Places, from_place, SameBelow}
use Rattle.h2_check.specs.CrcLaws.{crc32c_of-same}
use Rattle.h2_codes.specs.declared.code.Code.{Code}
use Rattle.h2_codes.specs.LayoutLaws.{OneSegment}
use Rattle.h2_ref.specs.declared.reference.Check.TheVariants.{Crc}
use Rattle.h2_ref.specs.declared.reference.Ref.{Ref}
use Rattle.h2_ref.specs.Ref.{empty_ref}
use Rattle.h2_header.specs.declared.header.Header.{Header}
use Rattle.h2_header.specs.Map.{top_level, zones_under, IsMapRef}
use Rattle.h2_freeleaf.specs.LeafLaws.{LeafBytes-same, leaf_one}
use Rattle.h2_freeleaf.specs.NodeLaws.{NodeBytes-same, node_one}
use Rattle.h2_freeleaf.specs.InImage.{HasCheck, LeadsToLeaf, LeadsToZone, LeadsToNode, LeadsTo, AreMapped, AreCodesOf, IsBlockOf, SameMap}

-- The levels of a map

-- the level of the blocks that a header names, by cases
pub top_cases : (zones : ℕ) (P : ℕ → Type 0) → (zones ≤ 8 → P 0) → (8 < zones → zones ≤ 64 → P 1) → (64 < zones → P 2) → P (top_level zones)
top_cases zones P leaves low high = elim (cases_Bool (nat_le zones 8)) [
  | inl few ↦ rw few (leaves (leb-true zones 8 few))
  | inr more ↦ elim (cases_Bool (nat_le zones 64)) [
    | inl some ↦ rw (more, some) (low (leb-false zones 8 more) (leb-true zones 64 some))
    | inr many ↦ rw (more, many) (high (leb-false zones 64 many))
  ]
]

pub top_most : (zones : ℕ) → top_level zones ≤ 2
top_most zones = top_cases zones (λ l. l ≤ 2) (λ few. omega arith) (λ more some. omega arith) (λ many. omega arith)

-- a zone under a node lies under one of its eight references
pub slot_under : (level zone z : ℕ) → level ≤ 1 → zone ≤ z → z < zone + zones_under (suc level)
    → (i : ℕ) × (i < 8) × (zone + zones_under level * i ≤ z) × (z < zone + zones_under level * i + zones_under level)
slot_under zero zone z le ge lt = (z - zone, omega arith, omega arith, omega arith)
slot_under (suc zero) zone z le ge lt = ((z - zone) / 8, omega arith, omega arith, omega arith)
slot_under (suc (suc level)) zone z le ge lt = absurd (omega arith)

-- a zone of the volume lies under one of the header's eight references
pub slot_of_top : (zones z : ℕ) → zones ≤ 512 → z < zones
    → (i : ℕ) × (i < 8) × (zones_under (top_level zones) * i ≤ z) × (z < zones_under (top_level zones) * i + zones_under (top_level zones))
slot_of_top zones z most lt = top_cases zones (λ l. (i : ℕ) × (i < 8) × (zones_under l * i ≤ z) × (z < zones_under l * i + zones_under l))
    (λ few. (z, omega arith, omega arith, omega arith)) (λ more some. (z / 8, omega arith, omega arith, omega arith)) (λ many. (z / 64, omega arith, omega arith, omega arith))

-- the blocks below a block begin where blocks of their level do
pub begins_below : (level zone i : ℕ) → level ≤ 1 → zone % zones_under (suc level) ≡ 0 → (zone + zones_under level * i) % zones_under level ≡ 0
begins_below zero zone i le begins = omega arith
begins_below (suc zero) zone i le begins = omega arith
begins_below (suc (suc level)) zone i le begins = absurd (omega arith)

begins_at_top : (level i : ℕ) → level ≤ 2 → (zones_under level * i) % zones_under level ≡ 0
begins_at_top zero i le = omega arith
begins_at_top (suc zero) i le = omega arith
begins_at_top (suc (suc zero)) i le = omega arith
begins_at_top (suc (suc (suc level))) i le = absurd (omega arith)

-- What a reference leads to depends on the bytes of the map's blocks alone

check_same : (a b : Places) (r : Ref) → SameBelow 1024 (from_place a r.place) (from_place b r.place) → HasCheck a r → HasCheck b r
check_same a b r same check = check ∙ ap Crc (sym (crc32c_of-same (from_place a r.place) (from_place b r.place) 1024 same))

leaf_same : (a b : Places) (leaf : List (List Code)) (r : Ref) → SameBelow 1024 (from_place a r.place) (from_place b r.place) → LeadsToLeaf a leaf r → LeadsToLeaf b leaf r
leaf_same a b leaf r same h =
    record { check = check_same a b r same h.check; valid = h.valid; bytes = LeafBytes-same leaf (from_place a r.place) (from_place b r.place) h.valid same h.bytes }

node_same : (a b : Places) (refs : List Ref) (r : Ref) → SameBelow 1024 (from_place a r.place) (from_place b r.place) → LeadsToNode a refs r → LeadsToNode b refs r
node_same a b refs r same h =
    record { check = check_same a b r same h.check; valid = h.valid; bytes = NodeBytes-same refs (from_place a r.place) (from_place b r.place) h.valid same h.bytes }

-- the block that a reference of the map names is the same
block_same : (zones number level zone : ℕ) (a b : Places) (r : Ref) → SameMap zones number a b → IsBlockOf zones level zone → IsMapRef level number zone r → SameBelow 1024 (from_place a r.place) (from_place b r.place)
block_same zones number level zone a b r same is names = subst (λ (p : ℕ). SameBelow 1024 (from_place a p) (from_place b p)) (sym names.place) (same level zone is)

leads_same : (zones number : ℕ) (segments : List (List Code)) (a b : Places) → SameMap zones number a b → (level zone : ℕ) (r : Ref) → IsBlockOf zones level zone → IsMapRef level number zone r
    → LeadsTo a zones number segments level zone r → LeadsTo b zones number segments level zone r
leads_same zones number segments a b same zero zone r is names h =
    record { leaf = h.leaf; is_zone = h.is_zone; leads = leaf_same a b h.leaf r (block_same zones number 0 zone a b r same is names) h.leads }
leads_same zones number segments a b same (suc level) zone r is names (refs, leads, entries, below) =
    let top = top_most zones in
    let in_levels : suc level ≤ top_level zones = is.in_levels in (
      refs,
      node_same a b refs r (block_same zones number (suc level) zone a b r same is names) leads,
      entries,
      λ i d lt inside.
          leads_same zones number segments a b same level (zone + zones_under level * i) (slice_index_or refs i d)
          (record { in_levels = omega (arith, in_levels); inside = inside; begins = begins_below level zone i (omega (arith, in_levels, top)) is.begins })
          ((entries i d lt).used inside) (below i d lt inside),
    )

-- which segments the references of a map lead to depends on the bytes of the map's blocks alone
pub mapped_same : (zones number : ℕ) (segments : List (List Code)) (refs : List Ref) (a b : Places) → SameMap zones number a b → AreMapped a zones number segments refs → AreMapped b zones number segments refs
mapped_same zones number segments refs a b same h = record {
  map = h.map;
  leads = λ i d lt inside.
      let top = top_most zones in
      leads_same zones number segments a b same (top_level zones) (zones_under (top_level zones) * i) (slice_index_or refs i d)
      (record { in_levels = omega arith; inside = inside; begins = begins_at_top (top_level zones) i top }) ((h.map.slots i d lt).used inside) (h.leads i d lt inside);
}

-- the codes of an image depend on the bytes of the map's blocks alone
pub codes_same : (h : Header) (segments : List (List Code)) (a b : Places) → SameMap h.zones h.map_number a b → AreCodesOf a h segments → AreCodesOf b h segments
codes_same h segments a b same are = record { count = are.count; mapped = mapped_same h.zones h.map_number segments h.map a b same are.mapped }

-- A reference leads to one list of segments at most

zone_one : OneSegment → (image : Places) (s t : List (List Code)) (zone : ℕ) (r : Ref) → LeadsToZone image s zone r → LeadsToZone image t zone r
    → (k : ℕ) → k < 8 → slice_index_or t (8 * zone + k) [] ≡ slice_index_or s (8 * zone + k) []
zone_one law image s t zone r p q k lt =
    let same : q.leaf ≡ p.leaf = leaf_one law p.leaf q.leaf (from_place image r.place) p.leads.valid q.leads.valid p.leads.bytes q.leads.bytes in
    sym (q.is_zone k [] lt) ∙ ap (λ (l : List (List Code)). slice_index_or l k []) same ∙ p.is_zone k [] lt

-- the segments of each zone under a block are the same
leads_one : OneSegment → (image : Places) (zones number : ℕ) (s t : List (List Code)) (level zone : ℕ) (r : Ref) → level ≤ 2 → LeadsTo image zones number s level zone r → LeadsTo image zones number t level zone r
    → (z k : ℕ) → zone ≤ z → z < zone + zones_under level → z < zones → k < 8 → slice_index_or t (8 * z + k) [] ≡ slice_index_or s (8 * z + k) []
leads_one law image zones number s t zero zone r le p q z k ge lt inside k_lt =
    let same : zone ≡ z = omega arith in
    subst (λ (x : ℕ). slice_index_or t (8 * x + k) [] ≡ slice_index_or s (8 * x + k) []) same (zone_one law image s t zone r p q k k_lt)
leads_one law image zones number s t (suc level) zone r le (refs, leads, entries, below) (qefs, qeads, qntries, qelow) z k ge lt inside k_lt =
    let same : qefs ≡ refs = node_one refs qefs (from_place image r.place) leads.valid qeads.valid leads.bytes qeads.bytes in
    let (i, i_lt, i_ge, i_end) = slot_under level zone z (omega arith) ge lt in
    let here : zone + zones_under level * i < zones = omega arith in
    let q = subst (λ (x : List Ref). LeadsTo image zones number t level (zone + zones_under level * i) (slice_index_or x i empty_ref)) same (qelow i empty_ref i_lt here) in
    leads_one law image zones number s t level (zone + zones_under level * i) (slice_index_or refs i empty_ref) (omega arith) (below i empty_ref i_lt here) q z k i_ge i_end inside k_lt

-- the references of a map lead to the segments of one list at most
mapped_one : OneSegment → (image : Places) (zones number : ℕ) (s t : List (List Code)) (refs : List Ref) → zones ≤ 512 → AreMapped image zones number s refs → AreMapped image zones number t refs
    → (z k : ℕ) → z < zones → k < 8 → slice_index_or t (8 * z + k) [] ≡ slice_index_or s (8 * z + k) []
mapped_one law image zones number s t refs most p q z k inside k_lt =
    let (i, i_lt, i_ge, i_end) = slot_of_top zones z most inside in
    let here : zones_under (top_level zones) * i < zones = omega arith in
    leads_one law image zones number s t (top_level zones) (zones_under (top_level zones) * i) (slice_index_or refs i empty_ref) (top_most zones) (p.leads i empty_ref i_lt here) (q.leads i empty_ref i_lt here) z k i_ge i_end inside k_lt

-- an image has one list of codes under a header at most
pub codes_one : OneSegment → (image : Places) (h : Header) (s t : List (List Code)) → h.zones ≤ 512 → AreCodesOf image h s → AreCodesOf image h t → t ≡ s
codes_one law image h s t most p q = ext_get_or [] t s (q.count ∙ sym p.count) (λ n lt.
    let many : length t ≡ 8 * h.zones = q.count in
    let whole : 8 * (n / 8) + n % 8 ≡ n = omega arith in
    subst (λ (x : ℕ). slice_index_or t x [] ≡ slice_index_or s x []) whole
    (mapped_one law image h.zones h.map_number s t h.map most p.mapped q.mapped (n / 8) (n % 8) (omega arith) (omega arith)))
