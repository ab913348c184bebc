-- How much of what a script may have was counted.
use Rattle.std.specs.Prelude.{◌≡◌, List, length, count_by}
use Rattle.std.specs.List.{sum_by}
use Rattle.h2_command.specs.declared.command.Command.{Command}
use Rattle.h2_script.specs.declared.counts.Counts.{Counts}
use Rattle.h2_command.specs.Commands.{is_bulkfree}
use Rattle.h2_script.specs.Scripts.{is_list, asked, AreFew}

-- the counts are those of the commands, which are few enough
pub record AreCounted (commands : List Command) (counts : Counts) : Type 0 where
  pub few : AreFew commands
  pub all : counts.commands ≡ length commands
  pub lists : counts.lists ≡ count_by is_list commands
  pub passes : counts.passes ≡ count_by is_bulkfree commands
  pub bytes : counts.bytes ≡ sum_by asked commands
