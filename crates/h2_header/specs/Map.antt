-- The freemap of a header: which references it has to it.
use Rattle.std.specs.Prelude.{◌≡◌, ◌⊎◌, ◌<◌, ◌≤◌, ℕ, zero, suc, ◌+◌, ◌*◌, ◌-◌, ◌%◌, ◌^◌, nat_le, if◌then◌else◌, List, length, slice_index_or, All}
use Rattle.h2_geom.specs.Places.{zone_place, node_place, turn_of}
use Rattle.h2_ref.specs.declared.reference.Kind.{Kind}
use Rattle.h2_ref.specs.declared.reference.Kind.TheVariants.{MapNode, MapLeaf}
use Rattle.h2_ref.specs.declared.reference.Ref.{Ref}
use Rattle.h2_ref.specs.Ref.{empty_ref, IsValid}

-- the level of the blocks that a header names: leaves up to 8 zones, nodes of level 1 up to 64, else of level 2
abbrev pub top_level : ℕ → ℕ
top_level zones = if nat_le zones 8 then 0 else if nat_le zones 64 then 1 else 2

-- how many zones a block of a level stands for
abbrev pub zones_under : ℕ → ℕ
zones_under level = 8 ^ level

-- the kind of the blocks of a level
abbrev pub map_kind : ℕ → Kind
map_kind zero = MapLeaf
map_kind (suc level) = MapNode

-- a kind of blocks of the freemap
abbrev pub IsMapKind : Kind → Type 0
IsMapKind kind = (kind ≡ MapNode) ⊎ (kind ≡ MapLeaf)

-- it names the block of a level that begins with a zone, in the map that the checkpoint of this number wrote
pub record IsMapRef (level number zone : ℕ) (r : Ref) : Type 0 where
  pub kind : r.kind ≡ map_kind level
  pub key : r.key ≡ zone_place zone
  pub keybits : r.keybits ≡ 25 + 3 * level
  pub place : r.place ≡ node_place level zone (turn_of number)
  pub id : r.id ≡ number

-- what stands for the zones from one on: a reference to their block, or an empty one behind the last zone
pub record IsMapEntry (level zones number zone : ℕ) (r : Ref) : Type 0 where
  pub used : zone < zones → IsMapRef level number zone r
  pub unused : zones ≤ zone → r ≡ empty_ref

-- what a slot of the header's map holds, by the number of zones
abbrev pub IsMapSlot : ℕ → ℕ → ℕ → Ref → Type 0
IsMapSlot zones number slot r = IsMapEntry (top_level zones) zones number (zones_under (top_level zones) * slot) r

-- the eight references to the map that the checkpoint of this number wrote
pub record IsMap (zones number : ℕ) (refs : List Ref) : Type 0 where
  pub length_is : length refs ≡ 8
  pub valid : All IsValid refs
  pub slots : (slot : ℕ) (d : Ref) → slot < 8 → IsMapSlot zones number slot (slice_index_or refs slot d)
