-- The exit statuses.
use Rattle.std.specs.Prelude.{ℕ}
use Rattle.h2_cmd.specs.declared.status.Status.{Status}
use Rattle.h2_cmd.specs.declared.status.Status.TheVariants.{Done, Usage, SinkFault, DiskFault, NoMemory, AlreadyFormatted}

-- the number of a status, with which the program exits
abbrev pub code_of : Status → ℕ
code_of Done = 0
code_of Usage = 1
code_of SinkFault = 4
code_of DiskFault = 5
code_of NoMemory = 7
code_of AlreadyFormatted = 8
