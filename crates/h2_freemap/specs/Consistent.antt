-- What holds of every freemap.
use Rattle.std.specs.Prelude.{◌≡◌, ◌≢◌, ◌<◌, ◌≤◌, ◌%◌, length, All, AllPairs, Some}
use Rattle.h2_num.specs.declared.block.Block.{Block}
use Rattle.h2_geom.specs.Geometry.{IsZoneCount, segments_of, chunk_bytes}
use Rattle.h2_codes.specs.declared.code.Code.TheVariants.{Free}
use Rattle.h2_codes.specs.Codes.{IsSegment}
use Rattle.h2_freemap.specs.declared.size.Size.{Size}
use Rattle.h2_codes.specs.declared.cursor.Cursor.{Cursor}
use Rattle.h2_freemap.specs.Space.{Space, chunk_count, code_of, cursor_of, InVolume}
use Rattle.h2_freemap.specs.Taking.{bytes_of}

-- a cursor lies in a chunk of the volume that isn't free, behind whole blocks of its size
pub record IsCursor (size : Size) (x : Space) (cursor : Cursor) : Type 0 where
  pub in_volume : cursor.chunk < chunk_count x
  pub in_use : code_of x cursor.chunk ≢ Free
  pub in_chunk : cursor.used ≤ chunk_bytes
  pub aligned : cursor.used % bytes_of size ≡ 0

-- The volume has 4 to 512 zones, with a segment of 256 codes for each of their segments; the cursors are such cursors;
-- the pinned blocks lie in the volume, and none is pinned twice.
pub record IsConsistent (x : Space) : Type 0 where
  pub zone_count : IsZoneCount x.zones
  pub segment_count : length x.segments ≡ segments_of x.zones
  pub segments : All IsSegment x.segments
  pub cursors : (size : Size) (cursor : Cursor) → cursor_of x size ≡ Some cursor → IsCursor size x cursor
  pub pins : All (InVolume x) x.pins
  pub distinct : AllPairs (λ (a b : Block). a ≢ b) x.pins
