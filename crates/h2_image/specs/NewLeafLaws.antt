-- The leaves of a new volume: each zone has its leaf at its place, with the codes of a new volume.
use Rattle.std.specs.Prelude.{◌≡◌, ◌<◌, ◌≤◌, ℕ, zero, suc, ◌+◌, ◌-◌, ◌*◌, ◌/◌, ◌%◌, List, [], slice_index_or}
use Rattle.std.proofs.Common.{ap, sym, subst, ◌∙◌, arith, inl, inr}
use Rattle.std.proofs.lemmas.Bool.{cases_lt}
use Rattle.h2_num.specs.Places.{Places, from_place}
use Rattle.h2_codes.specs.declared.code.Code.{Code}
use Rattle.h2_codes.specs.declared.code.Code.TheVariants.{Reserved}
use Rattle.h2_codes.specs.Codes.{code_at}
use Rattle.h2_ref.specs.declared.reference.Ref.{Ref}
use Rattle.h2_ref.specs.Ref.{empty_ref}
use Rattle.h2_header.specs.declared.header.Header.{Header}
use Rattle.h2_header.specs.Map.{top_level, zones_under, IsMapRef}
use Rattle.h2_geom.specs.Places.{leaf_place, node_place, turn_of}
use Rattle.h2_freemap.specs.Space.{code_in}
use Rattle.h2_freeleaf.specs.Leaf.{IsLeaf, LeafBytes}
use Rattle.h2_freeleaf.specs.InImage.{IsZoneOf, LeadsTo}
use Rattle.h2_image.specs.NewVolume.{IsNewCode, AreNewSegments, LeadToNewCodes, IsNewVolume}
use Rattle.h2_image.specs.NewVolumeLaws.{top_most}

-- the eight segments of a zone of a new volume
pub record IsNewLeaf (zone : ℕ) (leaf : List (List Code)) : Type 0 where
  pub valid : IsLeaf leaf
  pub codes : (segment chunk : ℕ) → segment < 8 → chunk < 256 → IsNewCode (2048 * zone + 256 * segment + chunk) (code_at (slice_index_or leaf segment []) chunk)

-- the leaf of a zone of a new volume stands at its place in the first copy
pub record HasNewLeaf (image : Places) (zone : ℕ) : Type 0 where
  pub leaf : List (List Code)
  pub is_new : IsNewLeaf zone leaf
  pub bytes : LeafBytes leaf (from_place image (leaf_place zone 0))

-- which of eight blocks of a level stands for a zone
record IsUnder (level first zone : ℕ) : Type 0 where
  index : ℕ
  below : index < 8
  from : first + zones_under level * index ≤ zone
  to : zone < first + zones_under level * index + zones_under level

under : (level first zone : ℕ) → level ≤ 2 → first ≤ zone → zone < first + zones_under (suc level) → IsUnder level first zone
under zero first zone le from to = record { index = zone - first; below = omega arith; from = omega arith; to = omega arith }
under (suc zero) first zone le from to = record { index = (zone - first) / 8; below = omega arith; from = omega arith; to = omega arith }
under (suc (suc zero)) first zone le from to = record { index = (zone - first) / 64; below = omega arith; from = omega arith; to = omega arith }
under (suc (suc (suc level))) first zone le from to = absurd (omega arith)

-- the volume has no more zones than eight blocks of the level that its header names stand for
zones_most : (zones : ℕ) → zones ≤ 512 → zones ≤ zones_under (suc (top_level zones))
zones_most zones most = elim (cases_lt 8 zones) [
  | inl more ↦ elim (cases_lt 64 zones) [ inl many ↦ grind arith | inr few ↦ grind arith ]
  | inr few ↦ grind arith
]

-- a leaf that was found under a block of the map
record LeafThere (image : Places) (segments : List (List Code)) (zone : ℕ) : Type 0 where
  leaf : List (List Code)
  is_zone : IsZoneOf segments zone leaf
  valid : IsLeaf leaf
  bytes : LeafBytes leaf (from_place image (leaf_place zone 0))

leaf_under : (image : Places) (zones : ℕ) (segments : List (List Code)) (level first zone : ℕ) (r : Ref) → level ≤ 2 → IsMapRef level 1 first r → LeadsTo image zones 1 segments level first r
    → first ≤ zone → zone < first + zones_under level → zone < zones → LeafThere image segments zone
leaf_under image zones segments zero first zone r le names l from to inside =
    let same : first ≡ zone = omega arith in
    let there : node_place 0 first (turn_of 1) ≡ leaf_place first 0 = omega arith in
    subst (LeafThere image segments) same (record { leaf = l.leaf; is_zone = l.is_zone; valid = l.leads.valid; bytes = subst (λ (p : ℕ). LeafBytes l.leaf (from_place image p)) (names.place ∙ there) l.leads.bytes })
leaf_under image zones segments (suc level) first zone r le names (refs, node, entries, below) from to inside =
    let u = under level first zone (omega arith) from to in
    let next = first + zones_under level * u.index in
    let from_next : next ≤ zone = u.from in
    let next_inside : next < zones = omega arith in
    leaf_under image zones segments level next zone (slice_index_or refs u.index empty_ref) (omega arith) ((entries u.index empty_ref u.below).used next_inside) (below u.index empty_ref u.below next_inside) u.from u.to inside

leaf_there : (image : Places) (zones : ℕ) (map : List Ref) (n : LeadToNewCodes image zones map) → zones ≤ 512 → (zone : ℕ) → zone < zones → LeafThere image n.segments zone
leaf_there image zones map n most zone inside =
    let top = top_level zones in
    let all : zones ≤ zones_under (suc top) = zones_most zones most in
    let u = under top 0 zone (top_most zones) (omega arith) (omega arith) in
    let start : 0 + zones_under top * u.index ≡ zones_under top * u.index = omega arith in
    let from : zones_under top * u.index ≤ zone = subst (λ (x : ℕ). x ≤ zone) start u.from in
    let to : zone < zones_under top * u.index + zones_under top = subst (λ (x : ℕ). zone < x + zones_under top) start u.to in
    let first_inside : zones_under top * u.index < zones = omega arith in
    leaf_under image zones n.segments top (zones_under top * u.index) zone (slice_index_or map u.index empty_ref) (top_most zones) ((n.mapped.map.slots u.index empty_ref u.below).used first_inside) (n.mapped.leads u.index empty_ref u.below first_inside) from to inside

-- the codes of a zone are those of its chunks in the volume
zone_codes : (zones : ℕ) (segments leaf : List (List Code)) (zone : ℕ) → zone < zones → AreNewSegments zones segments → IsZoneOf segments zone leaf → (segment chunk : ℕ) → segment < 8 → chunk < 256
    → IsNewCode (2048 * zone + 256 * segment + chunk) (code_at (slice_index_or leaf segment []) chunk)
zone_codes zones segments leaf zone inside new is segment chunk segment_lt chunk_lt =
    let n = 2048 * zone + 256 * segment + chunk in
    let which : n / 256 ≡ 8 * zone + segment = omega arith in
    let at : n % 256 ≡ chunk = omega arith in
    let here : code_in segments n ≡ code_at (slice_index_or leaf segment []) chunk =
    ap (λ (s : ℕ). slice_index_or (slice_index_or segments s []) (n % 256) Reserved) which ∙ ap (λ (c : ℕ). slice_index_or (slice_index_or segments (8 * zone + segment) []) c Reserved) at
    ∙ ap (λ (codes : List Code). slice_index_or codes chunk Reserved) (sym (is segment [] segment_lt)) in
    subst (IsNewCode n) here (new.codes n (omega arith))

pub new_leaves : (image : Places) (h : Header) (zones : ℕ) → IsNewVolume image h zones → (zone : ℕ) → zone < zones → HasNewLeaf image zone
new_leaves image h zones v zone inside =
    let l = leaf_there image zones h.map v.map v.count.1 zone inside in
    record { leaf = l.leaf; is_new = record { valid = l.valid; codes = zone_codes zones v.map.segments l.leaf zone inside v.map.are_new l.is_zone }; bytes = l.bytes }
