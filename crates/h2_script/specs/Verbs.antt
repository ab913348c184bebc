-- The words of commands, and what follows each.
use Rattle.std.specs.Prelude.{◌≡◌, ℕ, List, [], ◌∷◌, codes}
use Rattle.h2_script.specs.declared.verb.Verb.{Verb}
use Rattle.h2_script.specs.declared.verb.Verb.TheVariants.{Mkdir, Create, Link, Rm, Rmdir, Mv, Ls, Stat, Open, Close, Read, Write, Cut, Sync, Bulkfree, Snapshot, PfsCreate, PfsDelete, PfsList}

-- the word of a verb
abbrev pub verb_word : Verb → List ℕ
verb_word Mkdir = codes "mkdir"
verb_word Create = codes "create"
verb_word Link = codes "link"
verb_word Rm = codes "rm"
verb_word Rmdir = codes "rmdir"
verb_word Mv = codes "mv"
verb_word Ls = codes "ls"
verb_word Stat = codes "stat"
verb_word Open = codes "open"
verb_word Close = codes "close"
verb_word Read = codes "read"
verb_word Write = codes "write"
verb_word Cut = codes "cut"
verb_word Sync = codes "sync"
verb_word Bulkfree = codes "bulkfree"
verb_word Snapshot = codes "snapshot"
verb_word PfsCreate = codes "pfs-create"
verb_word PfsDelete = codes "pfs-delete"
verb_word PfsList = codes "pfs-list"

-- the word is that of no verb
abbrev pub IsNoVerb : List ℕ → Type 0
IsNoVerb word = (verb : Verb) → word ≡ verb_word verb → ⊥

-- what an argument is to be
pub data Argument : Type 0 where
  EntryPath : Argument
  AnyPath : Argument
  PfsName : Argument
  Handle : Argument
  Place : Argument
  Length : Argument
  Datum : Argument

-- the arguments of each command, from left to right
abbrev pub arguments_of : Verb → List Argument
arguments_of Mkdir = EntryPath ∷ []
arguments_of Create = EntryPath ∷ []
arguments_of Link = EntryPath ∷ EntryPath ∷ []
arguments_of Rm = EntryPath ∷ []
arguments_of Rmdir = EntryPath ∷ []
arguments_of Mv = EntryPath ∷ EntryPath ∷ []
arguments_of Ls = AnyPath ∷ []
arguments_of Stat = AnyPath ∷ []
arguments_of Open = AnyPath ∷ []
arguments_of Close = Handle ∷ []
arguments_of Read = Handle ∷ Place ∷ Length ∷ []
arguments_of Write = Handle ∷ Place ∷ Datum ∷ []
arguments_of Cut = Handle ∷ Place ∷ []
arguments_of Sync = []
arguments_of Bulkfree = []
arguments_of Snapshot = PfsName ∷ PfsName ∷ []
arguments_of PfsCreate = PfsName ∷ []
arguments_of PfsDelete = PfsName ∷ []
arguments_of PfsList = []
