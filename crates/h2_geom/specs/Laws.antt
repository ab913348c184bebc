-- Laws of the places of headers and of the freemap's blocks.
use Rattle.std.specs.Prelude.{◌≡◌, ◌≢◌, ◌<◌, ◌≤◌, ℕ, ◌+◌, ◌%◌}
use Rattle.h2_geom.specs.Geometry.{disk_bytes, chunk_of, IsReserved}
use Rattle.h2_geom.specs.Places.{MapBlock, IsMapBlock, IsApart, map_place, zone_place, header_place, map_block_bytes, header_bytes}

-- two different blocks of the freemap have no byte in common
abbrev pub MapBlocksApart : Type 0
MapBlocksApart = (a b : MapBlock) → IsMapBlock a → IsMapBlock b → a ≢ b → IsApart (map_place a) map_block_bytes (map_place b) map_block_bytes

-- a block of the freemap has no byte in common with a header's slot
abbrev pub MapApartFromHeaders : Type 0
MapApartFromHeaders = (b : MapBlock) (slot : ℕ) → IsMapBlock b → IsApart (map_place b) map_block_bytes (header_place slot) header_bytes

-- the slots of two headers have no byte in common
abbrev pub HeadersApart : Type 0
HeadersApart = (s t : ℕ) → s ≢ t → IsApart (header_place s) header_bytes (header_place t) header_bytes

-- each byte of a block of the freemap lies in a reserved chunk of the disk
abbrev pub MapIsReserved : Type 0
MapIsReserved = (b : MapBlock) (k : ℕ) → IsMapBlock b → k < map_block_bytes → (map_place b + k < disk_bytes) × IsReserved (chunk_of (map_place b + k))

-- a block of the freemap lies in its zone behind the room of a header, at a multiple of its size
abbrev pub MapInZone : Type 0
MapInZone = (b : MapBlock) → IsMapBlock b → (zone_place b.zone + header_bytes ≤ map_place b) × (map_place b + map_block_bytes ≤ zone_place (b.zone + 1)) × (map_place b % map_block_bytes ≡ 0)

-- each byte of a header's slot lies in a reserved chunk of the disk
abbrev pub HeadersAreReserved : Type 0
HeadersAreReserved = (slot k : ℕ) → slot < 4 → k < header_bytes → (header_place slot + k < disk_bytes) × IsReserved (chunk_of (header_place slot + k))
