-- What every script has: commands that a script can hold, of 8 clients.
use Rattle.std.specs.Prelude.{◌<◌, ℕ, List, All}
use Rattle.h2_command.specs.declared.command.Command.{Command}
use Rattle.h2_command.specs.Lawful.{Lawful}

-- one of 8 clients, and a command that a script can hold
abbrev pub IsLawfulCall : ℕ × Command → Type 0
IsLawfulCall call = (call.0 < 8) × Lawful call.1

-- so is each command of each phase
abbrev pub IsLawfulScript : List (List (ℕ × Command)) → Type 0
IsLawfulScript phases = All (λ phase. All IsLawfulCall phase) phases
