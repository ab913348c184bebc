-- A segment at two passes of bulkfree, by which the definition of a pass is tried.
use Rattle.std.specs.Prelude.{List, ◌∷◌, replicate, Bool, true, false}
use Rattle.h2_codes.specs.declared.code.Code.{Code}
use Rattle.h2_codes.specs.declared.code.Code.TheVariants.{Free, Staged, Used}

-- the codes of chunks 0 to 3; all others are free
abbrev pub four_codes : Code → Code → Code → Code → List Code
four_codes a b c d = a ∷ b ∷ c ∷ d ∷ replicate 252 Free

-- which of the chunks 0 to 3 a pass has seen; it has seen no other
abbrev pub four_seen : Bool → Bool → Bool → Bool → List Bool
four_seen a b c d = a ∷ b ∷ c ∷ d ∷ replicate 252 false

-- all four are used before the first pass
abbrev pub used_before : List Code
used_before = four_codes Used Used Used Used

-- it sees chunks 2 and 3
abbrev pub seen_first : List Bool
seen_first = four_seen false false true true

-- which stages chunks 0 and 1
abbrev pub after_first : List Code
after_first = four_codes Staged Staged Used Used

-- then a block is taken in chunk 1
abbrev pub taken_between : List Code
taken_between = four_codes Staged Used Used Used

-- the second pass sees chunks 1 and 2
abbrev pub seen_second : List Bool
seen_second = four_seen false true true false

-- which frees chunk 0 and stages chunk 3
abbrev pub after_second : List Code
after_second = four_codes Free Used Used Staged
