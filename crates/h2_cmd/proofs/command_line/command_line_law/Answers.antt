use Rattle.h2_cmd.specs.CommandLineLaws.{one_request}
use Rattle.h2_cmd.proofs.command_line.command_line_law.Goals as goal

pub returns : goal.returns
returns c = one_request
