-- The plan of a copy of the freemap: its blocks in the order of writing, and the references of the header's map.
use Rattle.std.specs.Prelude.{◌≡◌, ◌<◌, ℕ, zero, suc, ◌+◌, ◌-◌, ◌*◌, ◌/◌, ◌%◌, List, [], ◌∷◌, ◌++◌, length, map, slice_index_or, All}
use Rattle.h2_num.specs.Places.{Places, Holds}
use Rattle.h2_geom.specs.Places.{node_place, turn_of}
use Rattle.h2_codes.specs.declared.code.Code.{Code}
use Rattle.h2_ref.specs.declared.reference.Ref.{Ref}
use Rattle.h2_ref.specs.Ref.{empty_ref, IsValid}
use Rattle.h2_header.specs.Map.{top_level, zones_under, IsMapRef}
use Rattle.h2_freeleaf.specs.InImage.{LeadsTo, AreMapped}

-- a block of the level may begin with the zone
abbrev pub BeginsBlock : ℕ → ℕ → Type 0
BeginsBlock level zone = (zone < 512) × (zone % zones_under level ≡ 0)

-- how many blocks of a level the map of so many zones has
abbrev pub blocks_of : ℕ → ℕ → ℕ
blocks_of zones level = (zones + zones_under level - 1) / zones_under level

-- the write of the block of a level that begins with a zone, in the copy of the checkpoint of this number
abbrev pub write_of : ℕ → ℕ → ℕ → List ℕ → ℕ × List ℕ
write_of level number zone block = (node_place level zone (turn_of number), block)

-- all of the writes stand in the image
abbrev pub AllStand : List (ℕ × List ℕ) → Places → Type 0
AllStand writes image = (i : ℕ) (d : ℕ × List ℕ) → i < length writes → Holds (slice_index_or writes i d).0 (slice_index_or writes i d).1 image

-- the eight references from number 8 i on, and empty ones behind the last
abbrev pub IsEight : List Ref → ℕ → List Ref → Type 0
IsEight refs i eight = (k : ℕ) (d : Ref) → k < 8 → slice_index_or eight k d ≡ slice_index_or refs (8 * i + k) empty_ref

-- The first n blocks of a level, in the order of their zones, of which the writes are among these and the references
-- are those.
pub record IsLevel (zones number : ℕ) (segments : List (List Code)) (level n : ℕ) (writes : List (ℕ × List ℕ)) (refs : List Ref) : Type 0 where
  pub count : length refs ≡ n
  pub valid : All IsValid refs
  pub names : (i : ℕ) (d : Ref) → i < n → IsMapRef level number (zones_under level * i) (slice_index_or refs i d)
  pub sizes : (i : ℕ) (d : ℕ × List ℕ) → i < length writes → length (slice_index_or writes i d).1 ≡ 1024
  pub leads : (image : Places) (i : ℕ) (d : Ref) → AllStand writes image → i < n → LeadsTo image zones number segments level (zones_under level * i) (slice_index_or refs i d)

-- the places of the first n blocks of a level
abbrev pub level_places : ℕ → ℕ → ℕ → List ℕ
level_places number level zero = []
level_places number level (suc n) = level_places number level n ++ node_place level (zones_under level * n) (turn_of number) ∷ []

-- the places of all blocks in their order, from the leaves up to a level
abbrev pub map_places : ℕ → ℕ → ℕ → List ℕ
map_places zones number zero = level_places number 0 (blocks_of zones 0)
map_places zones number (suc level) = map_places zones number level ++ level_places number (suc level) (blocks_of zones (suc level))

-- the places of writes
abbrev pub places_of : List (ℕ × List ℕ) → List ℕ
places_of writes = map (λ (w : ℕ × List ℕ). w.0) writes

-- The plan of the copy that the checkpoint of a number writes of a freemap with these segments: the writes in their order,
-- and what they make of every image in which they stand, under the references of the header's map.
pub record IsPlan (zones number : ℕ) (segments : List (List Code)) (writes : List (ℕ × List ℕ)) (top : List Ref) : Type 0 where
  pub order : places_of writes ≡ map_places zones number (top_level zones)
  pub sizes : (i : ℕ) (d : ℕ × List ℕ) → i < length writes → length (slice_index_or writes i d).1 ≡ 1024
  pub mapped : (image : Places) → AllStand writes image → AreMapped image zones number segments top
