-- What a freemap says of the space of a volume.
use Rattle.std.specs.Prelude.{◌≡◌, ◌≢◌, ◌<◌, ℕ, List, [], slice_index_or, Option, None}
use Rattle.h2_num.specs.declared.block.Block.{Block}
use Rattle.h2_geom.specs.Geometry.{chunks_of, chunk_of, segment_of, in_segment}
use Rattle.h2_codes.specs.declared.code.Code.{Code}
use Rattle.h2_codes.specs.declared.code.Code.TheVariants.{Reserved}
use Rattle.h2_freemap.specs.declared.size.Size.{Size}
use Rattle.h2_freemap.specs.declared.size.Size.TheVariants.{Small, Middle, Whole}
use Rattle.h2_codes.specs.declared.cursor.Cursor.{Cursor}

-- the zones of the volume, the codes of its segments in order, the cursors of the sizes that share a chunk, the pinned
-- blocks, and how many more pins have room
pub record Space : Type 0 where
  pub zones : ℕ
  pub segments : List (List Code)
  pub small : Option Cursor
  pub middle : Option Cursor
  pub pins : List Block
  pub spare : ℕ

-- the chunks of the volume
abbrev pub chunk_count : Space → ℕ
chunk_count x = chunks_of x.zones

-- the code of a chunk by the codes of the segments; beyond them all is reserved
abbrev pub code_in : List (List Code) → ℕ → Code
code_in segments chunk = slice_index_or (slice_index_or segments (segment_of chunk) []) (in_segment chunk) Reserved

-- the code of a chunk
abbrev pub code_of : Space → ℕ → Code
code_of x chunk = code_in x.segments chunk

-- where the next block of a size goes; for whole chunks nothing is kept
abbrev pub cursor_of : Space → Size → Option Cursor
cursor_of x Small = x.small
cursor_of x Middle = x.middle
cursor_of x Whole = None

-- the block begins in a chunk of the volume
abbrev pub InVolume : Space → Block → Type 0
InVolume x b = chunk_of b.place < chunk_count x

-- a chunk has this code, and all other codes are as before
pub record ChangesCode (chunk : ℕ) (code : Code) (x y : Space) : Type 0 where
  pub zones : y.zones ≡ x.zones
  pub changed : code_of y chunk ≡ code
  pub others : (c : ℕ) → c ≢ chunk → code_of y c ≡ code_of x c

-- the pins and the room for more are as before
pub record KeepsPins (x y : Space) : Type 0 where
  pub pins : y.pins ≡ x.pins
  pub spare : y.spare ≡ x.spare

-- the cursors are as before
abbrev pub KeepsCursors : Space → Space → Type 0
KeepsCursors x y = (size : Size) → cursor_of y size ≡ cursor_of x size

-- the codes are as before
pub record KeepsCodes (x y : Space) : Type 0 where
  pub zones : y.zones ≡ x.zones
  pub segments : y.segments ≡ x.segments
