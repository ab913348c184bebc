-- How many chunks are free.
use Rattle.std.specs.Prelude.{ℕ}
use Rattle.h2_codes.specs.Free.{free_below}
use Rattle.h2_freemap.specs.Space.{Space, chunk_count, code_of}

-- how many chunks of the volume are free
abbrev pub free_of : Space → ℕ
free_of x = free_below (code_of x) (chunk_count x)
