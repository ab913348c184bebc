-- A chunk has one code at most in an image, and it is the one in the list of codes where the whole map is whole.
use Rattle.std.specs.Prelude.{◌≡◌, ◌<◌, ◌≤◌, ℕ, zero, suc, ◌+◌, ◌*◌, ◌/◌, ◌%◌, List, [], slice_index_or}
use Rattle.std.proofs.Common.{ap, sym, ◌∙◌, subst, arith}
use Rattle.h2_num.specs.Places.{Places, from_place}
use Rattle.h2_geom.specs.Geometry.{chunks_of, segment_of, in_segment}
use Rattle.h2_codes.specs.declared.code.Code.{Code}
use Rattle.h2_codes.specs.Codes.{code_at}
use Rattle.h2_codes.specs.LayoutLaws.{OneSegment}
use Rattle.h2_ref.specs.declared.reference.Ref.{Ref}
use Rattle.h2_ref.specs.Ref.{empty_ref}
use Rattle.h2_header.specs.declared.header.Header.{Header}
use Rattle.h2_header.specs.Map.{top_level, zones_under}
use Rattle.h2_freemap.specs.Space.{code_in}
use Rattle.h2_freeleaf.specs.LeafLaws.{leaf_one}
use Rattle.h2_freeleaf.specs.NodeLaws.{node_one}
use Rattle.h2_freeleaf.specs.InImage.{IsZoneOf, LeadsTo, AreCodesOf}
use Rattle.h2_freeleaf.specs.InImageLaws.{top_most, slot_under, slot_of_top}
use Rattle.h2_freeleaf.specs.ChunkCode.{LeadsToLeafOf, CodeOf}

-- where all blocks under a reference are whole, it leads to the leaf of each zone
way_to : (image : Places) (zones number : ℕ) (s : List (List Code)) (z : ℕ) → z < zones → (level zone : ℕ) (r : Ref) → level ≤ 2 → zone ≤ z → z < zone + zones_under level → LeadsTo image zones number s level zone r
    → (leaf : List (List Code)) × IsZoneOf s z leaf × LeadsToLeafOf image number z leaf level zone r
way_to image zones number s z inside zero zone r le ge lt h =
    let same : zone ≡ z = omega arith in
    (h.leaf, subst (λ (x : ℕ). IsZoneOf s x h.leaf) same h.is_zone, (sym same, h.leads))
way_to image zones number s z inside (suc level) zone r le ge lt (refs, leads, entries, below) =
    let (i, i_lt, i_ge, i_end) = slot_under level zone z (omega arith) ge lt in
    let here : zone + zones_under level * i < zones = omega arith in
    let (leaf, is, way) = way_to image zones number s z inside level (zone + zones_under level * i) (slice_index_or refs i empty_ref) (omega arith) i_ge i_end (below i empty_ref i_lt here) in
    (leaf, is, (refs, leads, i, i_lt, (entries i empty_ref i_lt).used here, way))

-- the code of a chunk of a segment, in the list and in a leaf
same_code : (s leaf : List (List Code)) (m k n c : ℕ) → m + k ≡ n → slice_index_or leaf k [] ≡ slice_index_or s (m + k) [] → code_at (slice_index_or s n []) c ≡ code_at (slice_index_or leaf k []) c
same_code s leaf m k n c is same = ap (λ (x : ℕ). code_at (slice_index_or s x []) c) (sym is) ∙ ap (λ (x : List Code). code_at x c) (sym same)

-- a chunk's code is the one in the list of codes
pub code_among : (image : Places) (h : Header) (s : List (List Code)) (chunk : ℕ) → h.zones ≤ 512 → AreCodesOf image h s → chunk < chunks_of h.zones → CodeOf image h chunk (code_in s chunk)
code_among image h s chunk most are lt =
    let z = chunk / 2048 in
    let inside : chunk / 2048 < h.zones = omega arith in
    let (i, i_lt, i_ge, i_end) = slot_of_top h.zones z most inside in
    let here : zones_under (top_level h.zones) * i < h.zones = omega arith in
    let (leaf, is, way) = way_to image h.zones h.map_number s z inside (top_level h.zones) (zones_under (top_level h.zones) * i) (slice_index_or h.map i empty_ref) (top_most h.zones) i_ge i_end (are.mapped.leads i empty_ref i_lt here) in
    let k : 8 * (chunk / 2048) + chunk / 256 % 8 ≡ chunk / 256 = omega arith in
    record {
      in_volume = lt;
      leaf = leaf;
      index = i;
      below = i_lt;
      leads = way;
      is = same_code s leaf (8 * (chunk / 2048)) (chunk / 256 % 8) (chunk / 256) (in_segment chunk) k (is (chunk / 256 % 8) [] (omega arith));
    }

-- a leaf to which a reference leads is that of a zone under it
under : (image : Places) (number z : ℕ) (leaf : List (List Code)) (level zone : ℕ) (r : Ref) → level ≤ 2 → LeadsToLeafOf image number z leaf level zone r → (zone ≤ z) × (z < zone + zones_under level)
under image number z leaf zero zone r le (same, leads) = (omega arith, omega arith)
under image number z leaf (suc zero) zone r le (refs, leads, i, i_lt, names, way) =
    let (ge, lt) = under image number z leaf zero (zone + 1 * i) (slice_index_or refs i empty_ref) (omega arith) way in
    (omega arith, omega arith)
under image number z leaf (suc (suc zero)) zone r le (refs, leads, i, i_lt, names, way) =
    let (ge, lt) = under image number z leaf (suc zero) (zone + 8 * i) (slice_index_or refs i empty_ref) (omega arith) way in
    (omega arith, omega arith)
under image number z leaf (suc (suc (suc level))) zone r le way = absurd (omega arith)

-- a zone lies under one block of a level
one_slot : (level zone z i j : ℕ) → level ≤ 2 → zone + zones_under level * i ≤ z → z < zone + zones_under level * i + zones_under level → zone + zones_under level * j ≤ z → z < zone + zones_under level * j + zones_under level → j ≡ i
one_slot zero zone z i j le a b c d = omega arith
one_slot (suc zero) zone z i j le a b c d = omega arith
one_slot (suc (suc zero)) zone z i j le a b c d = omega arith
one_slot (suc (suc (suc level))) zone z i j le a b c d = absurd (omega arith)

-- a reference leads to one leaf of a zone at most
one_leaf : OneSegment → (image : Places) (number z : ℕ) (x y : List (List Code)) (level zone : ℕ) (r : Ref) → level ≤ 2 → LeadsToLeafOf image number z x level zone r → LeadsToLeafOf image number z y level zone r → y ≡ x
one_leaf law image number z x y zero zone r le (same, p) (too, q) = leaf_one law x y (from_place image r.place) p.valid q.valid p.bytes q.bytes
one_leaf law image number z x y (suc level) zone r le (refs, leads, i, i_lt, names, way) (others, there, j, j_lt, too, path) =
    let (a, b) = under image number z x level (zone + zones_under level * i) (slice_index_or refs i empty_ref) (omega arith) way in
    let (c, d) = under image number z y level (zone + zones_under level * j) (slice_index_or others j empty_ref) (omega arith) path in
    let same : j ≡ i = one_slot level zone z i j (omega arith) a b c d in
    let node : others ≡ refs = node_one refs others (from_place image r.place) leads.valid there.valid leads.bytes there.bytes in
    one_leaf law image number z x y level (zone + zones_under level * i) (slice_index_or refs i empty_ref) (omega arith) way
    (subst (λ (n : ℕ). LeadsToLeafOf image number z y level (zone + zones_under level * n) (slice_index_or refs n empty_ref)) same
    (subst (λ (rs : List Ref). LeadsToLeafOf image number z y level (zone + zones_under level * j) (slice_index_or rs j empty_ref)) node path))

-- a chunk has one code at most
pub code_one : OneSegment → (image : Places) (h : Header) (chunk : ℕ) (x y : Code) → CodeOf image h chunk x → CodeOf image h chunk y → y ≡ x
code_one law image h chunk x y p q =
    let z = chunk / 2048 in
    let level = top_level h.zones in
    let top = top_most h.zones in
    let (a, b) = under image h.map_number z p.leaf level (zones_under level * p.index) (slice_index_or h.map p.index empty_ref) top p.leads in
    let (c, d) = under image h.map_number z q.leaf level (zones_under level * q.index) (slice_index_or h.map q.index empty_ref) top q.leads in
    let same : q.index ≡ p.index = one_slot (top_level h.zones) 0 (chunk / 2048) p.index q.index top (omega arith) (omega arith) (omega arith) (omega arith) in
    let leaf : q.leaf ≡ p.leaf =
    one_leaf law image h.map_number z p.leaf q.leaf level (zones_under level * p.index) (slice_index_or h.map p.index empty_ref) top p.leads
    (subst (λ (n : ℕ). LeadsToLeafOf image h.map_number (chunk / 2048) q.leaf (top_level h.zones) (zones_under (top_level h.zones) * n) (slice_index_or h.map n empty_ref)) same q.leads) in
    q.is ∙ ap (λ (l : List (List Code)). code_at (slice_index_or l (segment_of chunk % 8) []) (in_segment chunk)) leaf ∙ sym p.is
