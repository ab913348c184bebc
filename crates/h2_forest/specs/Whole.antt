-- A history that is whole for a script.
use Rattle.std.specs.Prelude.{ℕ, ◌+◌, List, [], ◌∷◌, ◌++◌, count_by, nat_eq}
use Rattle.std.specs.List.Sorted.{IsPermutation}
use Rattle.h2_command.specs.declared.command.Command.{Command}
use Rattle.h2_command.specs.declared.history.Entry.{Entry}
use Rattle.h2_command.specs.declared.history.Item.{Item}
use Rattle.h2_command.specs.declared.history.Item.TheVariants.{Call, Mark as Marked}

-- a command in its place: the phase, the client, and which one of its client's it is
pub record Asked : Type 0 where
  pub phase : ℕ
  pub client : ℕ
  pub index : ℕ
  pub command : Command

-- a script is a list of phases, each a list of commands with their clients
abbrev pub Script : Type 0
Script = List (List (ℕ × Command))

-- the commands of one phase in their places; done has the clients of all commands before
abbrev pub asked_in : ℕ → List ℕ → List (ℕ × Command) → List Asked
asked_in phase done [] = []
asked_in phase done (line ∷ lines) = record { phase = phase; client = line.0; index = count_by (nat_eq line.0) done; command = line.1 } ∷ asked_in phase (line.0 ∷ done) lines

-- the clients of a phase, and then those before
abbrev pub clients_before : List ℕ → List (ℕ × Command) → List ℕ
clients_before done [] = done
clients_before done (line ∷ lines) = clients_before (line.0 ∷ done) lines

-- the commands of all phases from one on
abbrev pub asked_from : ℕ → List ℕ → Script → List Asked
asked_from phase done [] = []
asked_from phase done (lines ∷ phases) = asked_in phase done lines ++ asked_from (phase + 1) (clients_before done lines) phases

-- an entry, without its reply
abbrev pub entry_asked : Entry → Asked
entry_asked e = record { phase = e.phase; client = e.client; index = e.index; command = e.command }

-- the entries among the items, without their replies
abbrev pub called : List Item → List Asked
called [] = []
called (Call e ∷ h) = entry_asked e ∷ called h
called (Marked m ∷ h) = called h

-- each command of the script has exactly one entry, and there are no others
abbrev pub Whole : List Item → Script → Type 0
Whole h script = IsPermutation (called h) (asked_from 0 [] script)
