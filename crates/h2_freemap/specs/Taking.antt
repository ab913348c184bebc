-- How a block is taken.
use Rattle.std.specs.Prelude.{◌≡◌, ◌≢◌, ◌<◌, ◌≤◌, ℕ, ◌+◌, Option, Some, None}
use Rattle.h2_num.specs.declared.block.Block.{Block}
use Rattle.h2_geom.specs.Geometry.{chunk_bytes, chunk_place}
use Rattle.h2_codes.specs.declared.code.Code.TheVariants.{Used}
use Rattle.h2_freemap.specs.declared.size.Size.{Size}
use Rattle.h2_freemap.specs.declared.size.Size.TheVariants.{Small, Middle, Whole}
use Rattle.h2_codes.specs.declared.cursor.Cursor.{Cursor}
use Rattle.h2_freemap.specs.Space.{Space, chunk_count, code_of, cursor_of, ChangesCode, KeepsPins}
use Rattle.h2_codes.specs.Free.{IsLowestFree}

-- the bytes of a block of a size
abbrev pub bytes_of : Size → ℕ
bytes_of Small = 1024
bytes_of Middle = 4096
bytes_of Whole = 16384

-- and their base-2 logarithm
abbrev pub radix_of : Size → ℕ
radix_of Small = 10
radix_of Middle = 12
radix_of Whole = 14

-- the chunk of the cursor has room for one more block of the size
abbrev pub HasRoom : Size → Cursor → Type 0
HasRoom size cursor = cursor.used + bytes_of size ≤ chunk_bytes

-- there is no cursor, or its chunk is filled
abbrev pub HasNoRoom : Size → Option Cursor → Type 0
HasNoRoom size None = Unit {0}
HasNoRoom size (Some cursor) = chunk_bytes < cursor.used + bytes_of size

-- where a block of the size goes: to its cursor, or where that has no room to the start of the lowest free chunk
pub data GoesTo (size : Size) (x : Space) (at : Cursor) : Type 0 where
  at_cursor : cursor_of x size ≡ Some at → HasRoom size at → GoesTo size x at
  at_lowest : HasNoRoom size (cursor_of x size) → at.used ≡ 0 → IsLowestFree (code_of x) (chunk_count x) at.chunk → GoesTo size x at

-- the cursor behind the block
abbrev pub cursor_behind : Size → Cursor → Option Cursor
cursor_behind Small at = Some (record { chunk = at.chunk; used = at.used + 1024 })
cursor_behind Middle at = Some (record { chunk = at.chunk; used = at.used + 4096 })
cursor_behind Whole at = None

-- the cursor of the size is this one; for whole chunks none is kept
abbrev pub with_cursor : Size → Cursor → Space → Space
with_cursor Small cursor x = record x { small = Some cursor }
with_cursor Middle cursor x = record x { middle = Some cursor }
with_cursor Whole cursor x = x

-- a block of the size is taken: its chunk is used, the cursor of its size goes behind it, and all else is as before
pub record Takes (size : Size) (x y : Space) (b : Block) : Type 0 where
  pub at : Cursor
  pub goes_to : GoesTo size x at
  pub place : b.place ≡ chunk_place at.chunk + at.used
  pub radix : b.radix ≡ radix_of size
  pub code : ChangesCode at.chunk Used x y
  pub cursor : cursor_of y size ≡ cursor_behind size at
  pub other_cursors : (other : Size) → other ≢ size → cursor_of y other ≡ cursor_of x other
  pub pins : KeepsPins x y
