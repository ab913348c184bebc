use Rattle.std.proofs.Common.{subst}
use Rattle.h2_script.specs.declared.line.Line.TheVariants.{Skipped}
use Rattle.h2_script.specs.Lines.{SpellsLine}
use Rattle.h2_script.proofs.ReadSoFar.{skip_read}
use Rattle.h2_script.proofs.reading.Reading.take_line.Goals as goal

pub returns-in-Skipped : goal.returns-in-Skipped
returns-in-Skipped c = λ before is. (Skipped, subst (SpellsLine c.args.line.now) c.in-Skipped.is c.in_ok-read_line.ensures, skip_read before c.args.self.now is)
