-- What the words of a command are, and what is wrong with them first.
use Rattle.std.specs.Prelude.{◌≡◌, ◌⊎◌, ℕ, List, [], ◌∷◌}
use Rattle.h2_command.specs.declared.command.Command.{Command}
use Rattle.h2_command.specs.declared.command.Command.TheVariants.{Mkdir, Create, Link, Rm, Rmdir, Mv, Ls, Stat, Attach, Close, ReadAt, WriteAt, Cut, Sync, Bulkfree, Snapshot, PfsCreate, PfsDelete, PfsList}
use Rattle.h2_script.specs.declared.verb.Verb.{Verb}
use Rattle.h2_script.specs.declared.verb.Verb.TheVariants as verb
use Rattle.h2_script.specs.declared.fault.LineFault.{LineFault}
use Rattle.h2_script.specs.declared.fault.LineFault.TheVariants.{Word}
use Rattle.h2_script.specs.Verbs.{verb_word, arguments_of}
use Rattle.h2_script.specs.Arguments.{OneEntry, TwoEntries, OnePath, OneName, TwoNames, OneHandle, HandleAndSize, HandleAndRange, HandleAndData, IsFaultOfWords, NameTwoPfss, AsksTooMuch, WritesTooMuch}

-- the command's verb and what its arguments spell, one row for each command
abbrev pub IsCommand : Verb → List (List ℕ) → Command → Type 0
IsCommand v args (Mkdir p) = (v ≡ verb.Mkdir) × OneEntry args p
IsCommand v args (Create p) = (v ≡ verb.Create) × OneEntry args p
IsCommand v args (Link p q) = (v ≡ verb.Link) × TwoEntries args p q
IsCommand v args (Rm p) = (v ≡ verb.Rm) × OneEntry args p
IsCommand v args (Rmdir p) = (v ≡ verb.Rmdir) × OneEntry args p
IsCommand v args (Mv p q) = (v ≡ verb.Mv) × TwoEntries args p q
IsCommand v args (Ls p) = (v ≡ verb.Ls) × OnePath args p
IsCommand v args (Stat p) = (v ≡ verb.Stat) × OnePath args p
IsCommand v args (Attach p) = (v ≡ verb.Open) × OnePath args p
IsCommand v args (Close handle) = (v ≡ verb.Close) × OneHandle args handle
IsCommand v args (ReadAt handle off len) = (v ≡ verb.Read) × HandleAndRange args handle off len
IsCommand v args (WriteAt handle off payload) = (v ≡ verb.Write) × HandleAndData args handle off payload
IsCommand v args (Cut handle size) = (v ≡ verb.Cut) × HandleAndSize args handle size
IsCommand v args Sync = (v ≡ verb.Sync) × (args ≡ [])
IsCommand v args Bulkfree = (v ≡ verb.Bulkfree) × (args ≡ [])
IsCommand v args (Snapshot source name) = (v ≡ verb.Snapshot) × TwoNames args source name
IsCommand v args (PfsCreate name) = (v ≡ verb.PfsCreate) × OneName args name
IsCommand v args (PfsDelete name) = (v ≡ verb.PfsDelete) × OneName args name
IsCommand v args PfsList = (v ≡ verb.PfsList) × (args ≡ [])

-- the words spell the command: its word, and then its arguments
abbrev pub SpellsCommand : List (List ℕ) → Command → Type 0
SpellsCommand words command = (v : Verb) × (args : List (List ℕ)) × (words ≡ verb_word v ∷ args) × IsCommand v args command

-- what is wrong where each argument is good by itself: two PFSs, or too many bytes
abbrev pub IsLateFault : Verb → List (List ℕ) → LineFault → Type 0
IsLateFault verb.Link args why = NameTwoPfss args why
IsLateFault verb.Mv args why = NameTwoPfss args why
IsLateFault verb.Read args why = AsksTooMuch args why
IsLateFault verb.Write args why = WritesTooMuch args why
IsLateFault _ args why = ⊥

-- the first fault of a command's arguments
abbrev pub IsFaultOfArguments : Verb → List (List ℕ) → LineFault → Type 0
IsFaultOfArguments v args why = IsFaultOfWords (arguments_of v) args why ⊎ IsLateFault v args why

-- the first fault of a command's words: the first is no command, or its arguments have a fault
abbrev pub IsFaultOfCommand : List (List ℕ) → LineFault → Type 0
IsFaultOfCommand words why =
    (((v : Verb) (args : List (List ℕ)) → words ≡ verb_word v ∷ args → ⊥) × (why ≡ Word))
    ⊎ ((v : Verb) × (args : List (List ℕ)) × (words ≡ verb_word v ∷ args) × IsFaultOfArguments v args why)
