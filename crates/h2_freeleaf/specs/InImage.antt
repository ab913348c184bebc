-- What the references of a map lead to in an image: the segments of the volume.
use Rattle.std.specs.Prelude.{◌≡◌, ◌<◌, ◌≤◌, ℕ, zero, suc, ◌+◌, ◌*◌, ◌%◌, List, [], length, slice_index_or, None}
use Rattle.h2_num.specs.Places.{Places, from_place, SameBelow}
use Rattle.h2_check.specs.Crc.{crc32c_of}
use Rattle.h2_geom.specs.Geometry.{segments_of}
use Rattle.h2_geom.specs.Places.{zone_place, node_place, turn_of}
use Rattle.h2_codes.specs.declared.code.Code.{Code}
use Rattle.h2_ref.specs.declared.reference.Check.TheVariants.{Crc}
use Rattle.h2_ref.specs.declared.reference.Ref.{Ref}
use Rattle.h2_header.specs.declared.header.Header.{Header}
use Rattle.h2_header.specs.Map.{top_level, zones_under, map_kind, IsMapEntry, IsMap}
use Rattle.h2_freeleaf.specs.Leaf.{IsLeaf, LeafBytes}
use Rattle.h2_freeleaf.specs.Node.{IsNode, NodeBytes}

-- the reference to the block of a level that begins with a zone, in the map that the checkpoint of this number wrote
abbrev pub map_ref_of : ℕ → ℕ → ℕ → Places → Ref
map_ref_of level number zone b = record {
  kind = map_kind level;
  key = zone_place zone;
  keybits = 25 + 3 * level;
  place = node_place level zone (turn_of number);
  radix = 10;
  id = number;
  check = Crc (crc32c_of b 1024);
  dirent = None;
}

-- these are the eight segments of a zone, of all the segments of a volume
abbrev pub IsZoneOf : List (List Code) → ℕ → List (List Code) → Type 0
IsZoneOf segments zone leaf = (k : ℕ) (d : List Code) → k < 8 → slice_index_or leaf k d ≡ slice_index_or segments (8 * zone + k) []

-- the 1024 bytes of a block have the check of the reference that names it
abbrev pub HasCheck : Places → Ref → Type 0
HasCheck image r = r.check ≡ Crc (crc32c_of (from_place image r.place) 1024)

-- the reference leads to a leaf with these segments
pub record LeadsToLeaf (image : Places) (leaf : List (List Code)) (r : Ref) : Type 0 where
  pub check : HasCheck image r
  pub valid : IsLeaf leaf
  pub bytes : LeafBytes leaf (from_place image r.place)

-- it is the leaf of a zone, of all the segments of a volume
pub record LeadsToZone (image : Places) (segments : List (List Code)) (zone : ℕ) (r : Ref) : Type 0 where
  pub leaf : List (List Code)
  pub is_zone : IsZoneOf segments zone leaf
  pub leads : LeadsToLeaf image leaf r

-- the reference leads to a node with these references
pub record LeadsToNode (image : Places) (refs : List Ref) (r : Ref) : Type 0 where
  pub check : HasCheck image r
  pub valid : IsNode refs
  pub bytes : NodeBytes refs (from_place image r.place)

-- the references of a node stand for the zones from one on: each names the block of a level that its place gives, or it
-- is empty behind the last zone
abbrev pub AreEntries : ℕ → ℕ → ℕ → ℕ → List Ref → Type 0
AreEntries level zones number zone refs = (i : ℕ) (d : Ref) → i < 8 → IsMapEntry level zones number (zone + zones_under level * i) (slice_index_or refs i d)

-- the reference leads to the block of a level that begins with a zone, which is whole with all blocks below it; they
-- have the segments of their zones
abbrev pub LeadsTo : Places → ℕ → ℕ → List (List Code) → ℕ → ℕ → Ref → Type 0
LeadsTo image zones number segments zero zone r = LeadsToZone image segments zone r
LeadsTo image zones number segments (suc level) zone r = (refs : List Ref) × LeadsToNode image refs r × AreEntries level zones number zone refs
    × ((i : ℕ) (d : Ref) → i < 8 → zone + zones_under level * i < zones → LeadsTo image zones number segments level (zone + zones_under level * i) (slice_index_or refs i d))

-- those of eight references whose zones are in the volume lead to their blocks
abbrev pub AllLead : Places → ℕ → ℕ → List (List Code) → ℕ → ℕ → List Ref → Type 0
AllLead image zones number segments level zone refs =
    (i : ℕ) (d : Ref) → i < 8 → zone + zones_under level * i < zones → LeadsTo image zones number segments level (zone + zones_under level * i) (slice_index_or refs i d)

-- the references of a header's map lead to all the segments of the volume
pub record AreMapped (image : Places) (zones number : ℕ) (segments : List (List Code)) (refs : List Ref) : Type 0 where
  pub map : IsMap zones number refs
  pub leads : (i : ℕ) (d : Ref) → i < 8 → zones_under (top_level zones) * i < zones
      → LeadsTo image zones number segments (top_level zones) (zones_under (top_level zones) * i) (slice_index_or refs i d)

-- The codes of an image under a header, segment by segment: those of all leaves to which the header's map leads, over blocks
-- that are whole.
pub record AreCodesOf (image : Places) (h : Header) (segments : List (List Code)) : Type 0 where
  pub count : length segments ≡ segments_of h.zones
  pub mapped : AreMapped image h.zones h.map_number segments h.map

-- there is such a block in the map of so many zones: of a level up to that of the blocks that the header names, beginning
-- with this zone
pub record IsBlockOf (zones level zone : ℕ) : Type 0 where
  pub in_levels : level ≤ top_level zones
  pub inside : zone < zones
  pub begins : zone % zones_under level ≡ 0

-- two images have the same blocks of the map of so many zones that the checkpoint of this number wrote
abbrev pub SameMap : ℕ → ℕ → Places → Places → Type 0
SameMap zones number a b = (level zone : ℕ) → IsBlockOf zones level zone
    → SameBelow 1024 (from_place a (node_place level zone (turn_of number))) (from_place b (node_place level zone (turn_of number)))
