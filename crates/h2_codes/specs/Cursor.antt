-- What becomes of a cursor by the code of its chunk.
use Rattle.std.specs.Prelude.{Option, Some, None}
use Rattle.h2_codes.specs.declared.code.Code.{Code}
use Rattle.h2_codes.specs.declared.code.Code.TheVariants.{Free, Reserved, Staged, Used}
use Rattle.h2_codes.specs.declared.cursor.Cursor.{Cursor}

-- the cursor, unless the code is that of a free chunk
abbrev pub unless_free : Code → Cursor → Option Cursor
unless_free Free at = None
unless_free Reserved at = Some at
unless_free Staged at = Some at
unless_free Used at = Some at
