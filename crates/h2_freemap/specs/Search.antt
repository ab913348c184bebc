-- The codes of segments after the code of a chunk has changed.
use Rattle.std.specs.Prelude.{ℕ, List, [], set, slice_index_or}
use Rattle.h2_geom.specs.Geometry.{segment_of, in_segment}
use Rattle.h2_codes.specs.declared.code.Code.{Code}

-- the segments with another code at a chunk
abbrev pub with_code : List (List Code) → ℕ → Code → List (List Code)
with_code segments chunk code = set segments (segment_of chunk) (set (slice_index_or segments (segment_of chunk) []) (in_segment chunk) code)
