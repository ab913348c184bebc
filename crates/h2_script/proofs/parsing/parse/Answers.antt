use Rattle.h2_script.specs.ScriptLaws.{lines_are_lawful}
use Rattle.h2_script.proofs.parsing.parse.Goals as goal

pub from_reading-requires : goal.from_reading-requires
from_reading-requires c = let read = c.in_ok-reading.ensures in (read.0, read.2, lines_are_lawful _ _ read.1)
