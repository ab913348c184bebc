-- Where headers and the blocks of the freemap lie: all in the reserved first segments of zones.
use Rattle.std.specs.Prelude.{◌<◌, ◌≤◌, ◌⊎◌, ℕ, ◌+◌, ◌-◌, ◌*◌, ◌%◌}
use Rattle.h2_geom.specs.Geometry.{zone_bytes, chunk_bytes}

-- bytes of a header's slot
abbrev pub header_bytes : ℕ
header_bytes = 65536

-- bytes of a leaf or node of the freemap
abbrev pub map_block_bytes : ℕ
map_block_bytes = 1024

-- the place of a zone's first byte
abbrev pub zone_place : ℕ → ℕ
zone_place zone = zone_bytes * zone

-- the place of a header's slot: slot s opens zone s
abbrev pub header_place : ℕ → ℕ
header_place slot = zone_place slot

-- the turn of a checkpoint, of which there are four: the slot of its header, and its copy of the freemap
abbrev pub turn_of : ℕ → ℕ
turn_of number = (number - 1) % 4

-- the place of a copy of the freemap in a zone: behind the room of a header, a chunk for each copy
abbrev pub copy_place : ℕ → ℕ → ℕ
copy_place zone copy = zone_place zone + header_bytes + chunk_bytes * copy

-- the place of the leaf of a zone in a copy
abbrev pub leaf_place : ℕ → ℕ → ℕ
leaf_place zone copy = copy_place zone copy

-- the place of the node of a level that begins with a zone, in a copy: a level's node stands behind
-- what lies below it
abbrev pub node_place : ℕ → ℕ → ℕ → ℕ
node_place level zone copy = copy_place zone copy + map_block_bytes * level

-- a block of the freemap: its level, 0 for a leaf, the zone with which it begins, and its copy
pub record MapBlock : Type 0 where
  pub level : ℕ
  pub zone : ℕ
  pub copy : ℕ

-- there may be such a block: a leaf or a node of the two levels, of one of the 512 zones and 4 copies
pub record IsMapBlock (b : MapBlock) : Type 0 where
  pub in_levels : b.level < 3
  pub in_zones : b.zone < 512
  pub in_copies : b.copy < 4

-- the place of a block of the freemap
abbrev pub map_place : MapBlock → ℕ
map_place b = node_place b.level b.zone b.copy

-- n bytes from a place on, and m bytes from another, have no byte in common
abbrev pub IsApart : ℕ → ℕ → ℕ → ℕ → Type 0
IsApart a n b m = (a + n ≤ b) ⊎ (b + m ≤ a)
