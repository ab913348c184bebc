-- A script of which some lines were read.
use Rattle.std.specs.Prelude.{◌≡◌, List, [], ◌∷◌, ◌++◌, map}
use Rattle.h2_script.specs.declared.line.Line.{Line}
use Rattle.h2_script.specs.declared.reading.Reading.{Reading}
use Rattle.h2_script.specs.Scripts.{commands_of, phases_of}
use Rattle.h2_script.specs.Counts.{AreCounted}

-- the phases are those of the lines, and their commands were counted
pub record IsReadSoFar (lines : List Line) (reading : Reading) : Type 0 where
  pub phases : phases_of lines ≡ map (λ phase. phase.items) reading.ended.items ++ reading.open.items ∷ []
  pub counted : AreCounted (commands_of lines) reading.counts
