-- The 64 bytes of the codes of a segment, as they stand in a leaf of the freemap.
use Rattle.std.specs.Prelude.{◌≡◌, ◌<◌, ℕ, ◌*◌, ◌/◌, ◌%◌, ◌^◌, List}
use Rattle.h2_geom.specs.Geometry.{segment_chunks}
use Rattle.h2_codes.specs.declared.code.Code.{Code}
use Rattle.h2_codes.specs.declared.code.Code.TheVariants.{Free, Reserved, Staged, Used}
use Rattle.h2_codes.specs.Codes.{code_at}

-- the two bits that stand for a code
abbrev pub code_number : Code → ℕ
code_number Free = 0
code_number Reserved = 1
code_number Staged = 2
code_number Used = 3

-- the two bits of a chunk, of which the lower comes first: those at 2 * (c mod 4) of byte c / 4
abbrev pub chunk_bits : (ℕ → ℕ) → ℕ → ℕ
chunk_bits bytes c = bytes (c / 4) / 2 ^ (2 * (c % 4)) % 4

-- the bytes hold the codes, two bits a chunk
abbrev pub HoldCodes : (ℕ → ℕ) → List Code → Type 0
HoldCodes bytes codes = (c : ℕ) → c < segment_chunks → chunk_bits bytes c ≡ code_number (code_at codes c)
