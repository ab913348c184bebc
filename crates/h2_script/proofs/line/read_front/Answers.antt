use Rattle.std.proofs.Common.{subst}
use Rattle.std.specs.Prelude.{MatchResult}
use Rattle.h2_script.specs.Commands.{SpellsCommand, IsFaultOfCommand}
use Rattle.h2_script.specs.Refusals.{RefusedBy}
use Rattle.h2_script.proofs.Front.{front_decides}
use Rattle.h2_script.proofs.line.read_front.Goals as goal

pub returns : goal.returns
returns c = λ all is. front_decides all c.read_command.result (subst (λ words. MatchResult c.read_command.result (SpellsCommand words) (RefusedBy (IsFaultOfCommand words))) is c.read_command.ensures)
