-- Which bytes are a script, which script they are, and what is wrong first with bytes that are none.
use Rattle.std.specs.Prelude.{◌≡◌, ◌⊎◌, ◌<◌, ◌≤◌, ◌+◌, ℕ, Bool, true, false, List, [], ◌∷◌, ◌++◌, length, count_by}
use Rattle.std.specs.List.{onto_first, sum_by}
use Rattle.h2_command.specs.declared.command.Command.{Command}
use Rattle.h2_command.specs.declared.command.Command.TheVariants.{Ls, ReadAt}
use Rattle.h2_command.specs.Commands.{is_bulkfree}
use Rattle.h2_script.specs.declared.line.Line.{Line}
use Rattle.h2_script.specs.declared.line.Line.TheVariants.{Skipped, PhaseEnd, Call}
use Rattle.h2_script.specs.declared.fault.LineFault.{LineFault}
use Rattle.h2_script.specs.declared.fault.LineFault.TheVariants.{TooLong}
use Rattle.h2_script.specs.declared.fault.ParseFault.{ParseFault}
use Rattle.h2_script.specs.declared.fault.ParseFault.TheVariants.{Script, NoMemory}
use Rattle.h2_script.specs.declared.fault.Refusal.{Refusal}
use Rattle.h2_script.specs.declared.fault.Refusal.TheVariants.{Fault, NoMemory as NoMemoryOfLine}
use Rattle.h2_script.specs.Lines.{lines_of, SpellsLine, IsFaultOfLine}

-- each line is what stands beside it
abbrev pub AreLines : List (List ℕ) → List Line → Type 0
AreLines [] [] = Unit {0}
AreLines [] (said ∷ more) = ⊥
AreLines (line ∷ lines) [] = ⊥
AreLines (line ∷ lines) (said ∷ more) = SpellsLine line said × AreLines lines more

-- the commands of the lines
abbrev pub commands_of : List Line → List Command
commands_of [] = []
commands_of (Skipped ∷ lines) = commands_of lines
commands_of (PhaseEnd ∷ lines) = commands_of lines
commands_of (Call client command ∷ lines) = command ∷ commands_of lines

-- the phases of the lines: each has the clients and the commands up to its end
abbrev pub phases_of : List Line → List (List (ℕ × Command))
phases_of [] = [] ∷ []
phases_of (Skipped ∷ lines) = phases_of lines
phases_of (PhaseEnd ∷ lines) = [] ∷ phases_of lines
phases_of (Call client command ∷ lines) = onto_first (client, command) (phases_of lines)

-- the command lists a directory
abbrev pub is_list : Command → Bool
is_list (Ls path) = true
is_list _ = false

-- how many bytes the command asks for
abbrev pub asked : Command → ℕ
asked (ReadAt handle off len) = len
asked _ = 0

-- no more commands, lists, passes and bytes read than one script may have
pub record AreFew (commands : List Command) : Type 0 where
  pub few : length commands ≤ 65536
  pub few_lists : count_by is_list commands ≤ 256
  pub few_passes : count_by is_bulkfree commands ≤ 1024
  pub few_bytes : sum_by asked commands ≤ 67108864

-- the bytes are the script
pub record IsScript (bytes : List ℕ) (phases : List (List (ℕ × Command))) : Type 0 where
  pub short : length bytes ≤ 4194304
  pub read : (lines : List Line) × AreLines (lines_of bytes) lines × AreFew (commands_of lines) × (phases ≡ phases_of lines)

-- the command is one too many after these lines
abbrev pub IsOneTooMany : List Line → List ℕ → Type 0
IsOneTooMany before line = (client : ℕ) × (command : Command) × SpellsLine line (Call client command) × (AreFew (commands_of before ++ command ∷ []) → ⊥)

-- the line after those before is the first with a fault, and that is its first fault
pub record IsFirstFaulty (lines : List (List ℕ)) (before : List Line) (bad : List ℕ) (why : LineFault) : Type 0 where
  pub stands : (good after : List (List ℕ)) × (lines ≡ good ++ bad ∷ after) × AreLines good before
  pub few : AreFew (commands_of before)
  pub fault : IsFaultOfLine bad why ⊎ (IsOneTooMany before bad × (why ≡ TooLong))

-- the number of the first faulty line, from 1, and its first fault
abbrev pub IsFirstFault : List (List ℕ) → ℕ → LineFault → Type 0
IsFirstFault lines number why = (before : List Line) × (bad : List ℕ) × IsFirstFaulty lines before bad why × (number ≡ length before + 1)

-- why the lines are no script
abbrev pub IsFaultOfLines : List (List ℕ) → ParseFault → Type 0
IsFaultOfLines lines (Script number why) = IsFirstFault lines number why
IsFaultOfLines lines NoMemory = Unit {0}

-- why the bytes are no script: they are too many, which is told of line 0, or a line has a fault
abbrev pub IsFaultOfScript : List ℕ → ParseFault → Type 0
IsFaultOfScript bytes (Script number why) =
    ((4194304 < length bytes) × (number ≡ 0) × (why ≡ TooLong))
    ⊎ ((length bytes ≤ 4194304) × IsFirstFault (lines_of bytes) number why)
IsFaultOfScript bytes NoMemory = Unit {0}

-- the refusal of a line as that of a script
abbrev pub fault_in : ℕ → Refusal → ParseFault
fault_in number (Fault why) = Script number why
fault_in number NoMemoryOfLine = NoMemory
