-- What a pass of bulkfree makes of the codes of a segment.
use Rattle.std.specs.Prelude.{◌≡◌, ◌<◌, ℕ, ◌+◌, Bool, true, false, List, [], ◌∷◌}
use Rattle.h2_geom.specs.Geometry.{segment_chunks}
use Rattle.h2_codes.specs.declared.code.Code.{Code}
use Rattle.h2_codes.specs.declared.code.Code.TheVariants.{Free, Reserved, Staged, Used}
use Rattle.h2_codes.specs.Codes.{IsSegment, code_at, tally}
use Rattle.h2_codes.specs.Seen.{has_chunk}

-- the code of a chunk that the pass has seen in use
abbrev pub seen_code : Code → Code
seen_code Free = Free
seen_code Reserved = Reserved
seen_code Staged = Used
seen_code Used = Used

-- the code of a chunk that it hasn't seen: used becomes staged, and staged becomes free
abbrev pub unseen_code : Code → Code
unseen_code Free = Free
unseen_code Reserved = Reserved
unseen_code Staged = Free
unseen_code Used = Staged

-- the code of a chunk after the pass, by whether it is seen
abbrev pub swept_code : Bool → Code → Code
swept_code true code = seen_code code
swept_code false code = unseen_code code

-- 1 where the two codes are the same and the chunk isn't seen, else 0
abbrev pub tally_unseen : Code → Code → Bool → ℕ
tally_unseen code x true = 0
tally_unseen code x false = tally code x

-- how many chunks have a code and aren't in the set
abbrev pub count_unseen : Code → List Code → List Bool → ℕ
count_unseen code [] flags = 0
count_unseen code (x ∷ xs) [] = tally_unseen code x false + count_unseen code xs []
count_unseen code (x ∷ xs) (flag ∷ flags) = tally_unseen code x flag + count_unseen code xs flags

-- each chunk's code is what the pass makes of it
pub record IsSwept (seen : List Bool) (old new : List Code) : Type 0 where
  pub length_is : IsSegment new
  pub codes : (c : ℕ) → c < segment_chunks → code_at new c ≡ swept_code (has_chunk seen c) (code_at old c)
