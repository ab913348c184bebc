-- Kinds of commands.
use Rattle.std.specs.Prelude.{Bool, true, false}
use Rattle.h2_command.specs.declared.command.Command.{Command}
use Rattle.h2_command.specs.declared.command.Command.TheVariants.{Bulkfree}

-- the command that asks for a pass of bulkfree
abbrev pub is_bulkfree : Command → Bool
is_bulkfree Bulkfree = true
is_bulkfree _ = false
