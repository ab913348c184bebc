-- The ids and the names of PFSs, and the numbers of their inodes.
use Rattle.std.specs.Prelude.{◌≢◌, ℕ, ◌+◌, ◌<◌, ◌≤◌, List, [], ◌∷◌, IsSome, All, AllPairs}
use Rattle.std.specs.FinMap.{get}
use Rattle.h2_command.specs.declared.command.Command.TheVariants.{PfsCreate}
use Rattle.h2_command.specs.Lawful.{Lawful}
use Rattle.h2_forest.specs.declared.pfs.Pfs.{Pfs}
use Rattle.h2_forest.specs.Forest.{PlainForest}

-- the ids ascend from a number on, and the next one is above them
abbrev pub Ascend : ℕ → List Pfs → ℕ → Type 0
Ascend low [] next = low ≤ next
Ascend low (p ∷ ps) next = (low ≤ p.id) × Ascend (p.id + 1) ps next

-- the PFSs stand in the order of their ids, no two have one id, and the next id is above them
abbrev pub IdsAscend : PlainForest → Type 0
IdsAscend f = Ascend 0 f.pfss f.next_pfs

-- no two PFSs have one name
abbrev pub NamesDiffer : PlainForest → Type 0
NamesDiffer f = AllPairs (λ (p q : Pfs). p.name ≢ q.name) f.pfss

-- each PFS has a name that a script can give to one
abbrev pub NamesAreGood : PlainForest → Type 0
NamesAreGood f = All (λ (p : Pfs). Lawful (PfsCreate p.name)) f.pfss

-- each inode of the PFS has a number below the next one
abbrev pub IsBelowNext : Pfs → Type 0
IsBelowNext p = (number : ℕ) → IsSome (get p.table number) → number < p.next

-- so it is in each PFS
abbrev pub NumbersBelow : PlainForest → Type 0
NumbersBelow f = All IsBelowNext f.pfss
