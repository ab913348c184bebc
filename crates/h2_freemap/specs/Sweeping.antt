-- What applying a pass of bulkfree to a segment does.
use Rattle.std.specs.Prelude.{◌≡◌, ◌≢◌, ℕ, List, [], Bool, Option, Some, None, slice_index_or}
use Rattle.h2_geom.specs.Geometry.{segment_of, in_segment}
use Rattle.h2_codes.specs.declared.code.Code.{Code}
use Rattle.h2_codes.specs.Seen.{has_chunk}
use Rattle.h2_codes.specs.Bulkfree.{swept_code}
use Rattle.h2_codes.specs.Cursor.{unless_free}
use Rattle.h2_freemap.specs.declared.size.Size.{Size}
use Rattle.h2_codes.specs.declared.cursor.Cursor.{Cursor}
use Rattle.h2_freemap.specs.Space.{Space, code_in, code_of, cursor_of, KeepsPins}

-- the codes of a segment
abbrev pub segment_at : Space → ℕ → List Code
segment_at x segment = slice_index_or x.segments segment []

-- the cursor that is left, by the codes of the segments afterwards
abbrev pub kept_cursor : List (List Code) → Option Cursor → Option Cursor
kept_cursor segments None = None
kept_cursor segments (Some cursor) = unless_free (code_in segments cursor.chunk) cursor

-- Each chunk of the segment gets the code that the pass makes of it, cursors in chunks that became free are forgotten,
-- and all else is as before.
pub record Sweeps (segment : ℕ) (seen : List Bool) (x y : Space) : Type 0 where
  pub zones : y.zones ≡ x.zones
  pub swept : (c : ℕ) → segment_of c ≡ segment → code_of y c ≡ swept_code (has_chunk seen (in_segment c)) (code_of x c)
  pub elsewhere : (c : ℕ) → segment_of c ≢ segment → code_of y c ≡ code_of x c
  pub cursors : (size : Size) → cursor_of y size ≡ kept_cursor y.segments (cursor_of x size)
  pub pins : KeepsPins x y
