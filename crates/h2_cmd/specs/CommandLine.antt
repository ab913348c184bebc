-- What the words of a command line ask for.
use Rattle.std.specs.Prelude.{◌≡◌, ℕ, List, [], ◌∷◌, codes}
use Rattle.std.specs.Fmt.{decimal}
use Rattle.h2_geom.specs.Geometry.{IsZoneCount}
use Rattle.h2_cmd.specs.declared.command_line.Request.{Request}
use Rattle.h2_cmd.specs.declared.command_line.Request.TheVariants.{Format}

-- one row for each command: its word, the image, and its arguments
abbrev pub Asks : List (List ℕ) → Request → Type 0
Asks words (Format zones) = (image : List ℕ) × (words ≡ codes "format" ∷ image ∷ decimal zones ∷ []) × IsZoneCount zones

-- the words are those of no command
abbrev pub AsksNothing : List (List ℕ) → Type 0
AsksNothing words = (request : Request) → Asks words request → ⊥
