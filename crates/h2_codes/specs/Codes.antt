-- A segment of the freemap as the list of the codes of its 256 chunks.
use Rattle.std.specs.Prelude.{◌≡◌, ◌≢◌, ◌<◌, ◌≤◌, ℕ, ◌+◌, List, [], ◌∷◌, length, slice_index_or}
use Rattle.h2_geom.specs.Geometry.{segment_chunks}
use Rattle.h2_codes.specs.declared.code.Code.{Code}
use Rattle.h2_codes.specs.declared.code.Code.TheVariants.{Free, Reserved, Staged, Used}

-- the list has a code for each chunk of a segment
abbrev pub IsSegment : List Code → Type 0
IsSegment codes = length codes ≡ segment_chunks

-- the code of a chunk; past the list's end it is reserved
abbrev pub code_at : List Code → ℕ → Code
code_at codes c = slice_index_or codes c Reserved

-- 1 where the two codes are the same, else 0
abbrev pub tally : Code → Code → ℕ
tally Free Free = 1
tally Reserved Reserved = 1
tally Staged Staged = 1
tally Used Used = 1
tally _ _ = 0

-- how many chunks have a code
abbrev pub count_of : Code → List Code → ℕ
count_of code [] = 0
count_of code (x ∷ xs) = tally code x + count_of code xs

-- no chunk from one number up to before another is free
abbrev pub NoneFree : ℕ → ℕ → List Code → Type 0
NoneFree from to codes = (c : ℕ) → from ≤ c → c < to → code_at codes c ≢ Free

-- it is the least free chunk of the segment from a number on
pub record IsNextFree (from : ℕ) (codes : List Code) (c : ℕ) : Type 0 where
  pub from_on : from ≤ c
  pub in_segment : c < segment_chunks
  pub free : code_at codes c ≡ Free
  pub least : NoneFree from c codes
