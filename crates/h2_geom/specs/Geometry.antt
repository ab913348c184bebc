-- Zones, segments and chunks of a volume. All of them are numbered from 0, over the whole volume.
use Rattle.std.specs.Prelude.{◌≡◌, ◌<◌, ◌≤◌, ℕ, ◌*◌, ◌/◌, ◌%◌, ◌^◌}

-- bytes of a chunk: 16 KiB
abbrev pub chunk_bytes : ℕ
chunk_bytes = 16384

-- chunks of a segment, which has 4 MiB
abbrev pub segment_chunks : ℕ
segment_chunks = 256

-- segments of a zone
abbrev pub zone_segments : ℕ
zone_segments = 8

-- chunks of a zone, which has 32 MiB
abbrev pub zone_chunks : ℕ
zone_chunks = 2048

-- bytes of a zone
abbrev pub zone_bytes : ℕ
zone_bytes = 33554432

-- places of a disk are below this
abbrev pub disk_bytes : ℕ
disk_bytes = 2 ^ 34

-- a volume may have so many zones
abbrev pub IsZoneCount : ℕ → Type 0
IsZoneCount zones = (4 ≤ zones) × (zones ≤ 512)

-- chunks of a volume
abbrev pub chunks_of : ℕ → ℕ
chunks_of zones = zone_chunks * zones

-- segments of a volume
abbrev pub segments_of : ℕ → ℕ
segments_of zones = zone_segments * zones

-- the chunk lies in the first segment of its zone, which is reserved
abbrev pub IsReserved : ℕ → Type 0
IsReserved chunk = chunk % zone_chunks < segment_chunks

-- the segment is the first of its zone
abbrev pub IsReservedSegment : ℕ → Type 0
IsReservedSegment segment = segment % zone_segments ≡ 0

-- the chunk in which a place lies
abbrev pub chunk_of : ℕ → ℕ
chunk_of place = place / chunk_bytes

-- the place of a chunk's first byte
abbrev pub chunk_place : ℕ → ℕ
chunk_place chunk = chunk_bytes * chunk

-- the segment in which a chunk lies
abbrev pub segment_of : ℕ → ℕ
segment_of chunk = chunk / segment_chunks

-- the number of a chunk in its segment
abbrev pub in_segment : ℕ → ℕ
in_segment chunk = chunk % segment_chunks
