-- Writes to a volume of the small format, by which the definition of what a cut leaves of a volume is tried.
use Rattle.std.specs.Prelude.{ℕ, List, [], ◌∷◌, cond, nat_eq, replicate}
use Rattle.h2_num.specs.Places.{Places}
use Rattle.h2_disk.specs.Trace.{Trace, Opened, Call, Write, after}
use Rattle.h2_crash_rows.specs.Mounts.{image_made}

-- the bytes of header 2, whose block stands one place behind that of header 1
abbrev pub second_written : List ℕ
second_written = 2 ∷ 1 ∷ replicate 65534 0

-- since the opening of the volume with header 1, header 2 began to be written into slot 1 at moment 5
abbrev pub header_calls : List Call
header_calls = Write 5 33554432 second_written ∷ []

-- the volume with header 1, and two bytes of slot 1
abbrev pub with_second : ℕ → ℕ → Places
with_second number place = λ k. cond (nat_eq k 33554432) number (cond (nat_eq k 33554433) place (image_made k))

-- or the block of header 1 began to be written again with its own byte
abbrev pub block_calls : List Call
block_calls = Write 5 65536 (7 ∷ []) ∷ []

-- header 1 in slot 0, and another byte in its block
abbrev pub with_block : ℕ → Places
with_block byte = λ k. cond (nat_eq k 0) 1 (cond (nat_eq k 65536) byte 0)

-- the trace of a disk that was opened on the volume
abbrev pub trace_of : List Call → Trace
trace_of since = after since (Opened image_made)
