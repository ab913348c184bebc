-- Finding a name among the entries of a directory.
use Rattle.std.specs.Prelude.{◌≡◌, ◌⊎◌, ℕ, ◌+◌, ◌/◌, ◌^◌, Bool, true, List, Option, Some, None, Result, Ok, Err, ⊤}
use Rattle.std.specs.FinMap.{get}
use Rattle.h2_ref.specs.declared.faults.Trouble.{Trouble}
use Rattle.h2_ref.specs.declared.faults.Trouble.TheVariants.{NoMemory}
use Rattle.h2_ref.specs.declared.reference.Dirent.{Dirent}
use Rattle.h2_ref.specs.declared.reference.Ref.{Ref}
use Rattle.h2_set.specs.Forest.{Forest, Reaches}
use Rattle.h2_set.specs.Calls.{HasCause, IsBad, MeetsNone, MeetsOnly}
use Rattle.h2_tree.specs.Changes.{RangeUnloaded}
use Rattle.h2_dirkey.specs.Name.{IsName}
use Rattle.h2_dirkey.specs.Key.{upper_bits, least_key, IsNameUnder}
use Rattle.h2_inode.specs.declared.kind.InodeKind.{InodeKind}
use Rattle.h2_inode.specs.declared.kind.InodeKind.TheVariants.{Directory}
use Rattle.h2_inode.specs.Nodes.{Fields, Told}
use Rattle.h2_inode.specs.Loaded.{loaded_nodes, no_content, at_root}
use Rattle.h2_inode.specs.Directory.{Entries, IsDirectory}
use Rattle.h2_dir.specs.declared.fault.DirFault.{DirFault}
use Rattle.h2_dir.specs.declared.fault.DirFault.TheVariants as fault
use Rattle.h2_dir.specs.Names.{IsEntryNamed, MayBeNamed, IsLongCandidate}

-- the greatest key of a name
abbrev pub last_key : List ℕ → ℕ
last_key name = least_key name + 32767

-- The tree of this root stands for a directory of this size with these entries. Which numbers an entry may name, by
-- what it says of the kind, is told by `may`.
abbrev pub HoldsEntries : Forest → (ℕ → Option Fields) → (Ref → Option Told) → (ℕ → ℕ → Bool) → ℕ → ℕ → Entries → Type 0
HoldsEntries f holds tells may dir size entries = IsDirectory (loaded_nodes f holds tells no_content) (λ target number. may target number ≡ true) (at_root dir) size entries

-- the entry under the key has the name, and the key's path is loaded
pub record IsFound (f : Forest) (dir : ℕ) (name : List ℕ) (key : ℕ) (entry : Dirent) : Type 0 where
  pub leaf : Ref
  pub path : Reaches f key dir (Some leaf)
  pub key_is : leaf.key ≡ key
  pub entry_is : leaf.dirent ≡ Some entry
  pub under : IsNameUnder key name
  pub named : MayBeNamed f leaf name

-- no entry under a key of the name is known to have it, and all these keys' paths are loaded
pub record IsMissing (f : Forest) (dir : ℕ) (name : List ℕ) : Type 0 where
  pub none : (leaf : Ref) → Reaches f leaf.key dir (Some leaf) → IsNameUnder leaf.key name → IsEntryNamed f leaf name → ⊥
  pub loaded : IsName name → RangeUnloaded f (least_key name) (last_key name) dir → ⊥

-- an entry under a key of the name, whose path is loaded, has as many bytes as the name, and a block for them
pub record HasLongCandidate (f : Forest) (dir : ℕ) (name : List ℕ) : Type 0 where
  pub leaf : Ref
  pub path : Reaches f leaf.key dir (Some leaf)
  pub upper : leaf.key / 2 ^ 15 ≡ upper_bits name
  pub long : IsLongCandidate leaf name

-- A load that a search for the name needs: of a node whose range has a key of the name, or of the block of such an
-- entry's name. The entry's path is loaded then.
abbrev pub MayLoad : Forest → Forest → ℕ → List ℕ → Trouble → Type 0
MayLoad f g dir name e = (e ≡ NoMemory) ⊎ (RangeUnloaded f (least_key name) (last_key name) dir ⊎ HasLongCandidate g dir name)

-- why the name wasn't found
abbrev pub FindFails : Forest → Forest → InodeKind → ℕ → List ℕ → DirFault → Type 0
FindFails f g kind dir name fault.NoEntry = (kind ≡ Directory) × IsMissing g dir name
FindFails f g kind dir name fault.Exists = ⊥
FindFails f g kind dir name fault.NotDir = kind ≡ Directory → ⊥
FindFails f g kind dir name (fault.Trouble e) = (kind ≡ Directory) × HasCause f g e × MayLoad f g dir name e

-- a block wasn't what it should be
abbrev pub IsBadBlock : DirFault → Type 0
IsBadBlock fault.NoEntry = ⊥
IsBadBlock fault.Exists = ⊥
IsBadBlock fault.NotDir = ⊥
IsBadBlock (fault.Trouble e) = IsBad e

-- of the faults of the disk just the one was met that is told, and that once
abbrev pub FaultMeetsOnly : Forest → Forest → DirFault → Type 0
FaultMeetsOnly f g fault.NoEntry = MeetsNone f g
FaultMeetsOnly f g fault.Exists = MeetsNone f g
FaultMeetsOnly f g fault.NotDir = MeetsNone f g
FaultMeetsOnly f g (fault.Trouble e) = MeetsOnly f g e

-- what was found agrees with the entries of the directory: the number that the name has, or that it has none
abbrev pub AgreesOn : Entries → List ℕ → Result (ℕ × Dirent) DirFault → Type 0
AgreesOn entries name (Ok found) = get entries name ≡ Some found.1.number
AgreesOn entries name (Err fault.NoEntry) = get entries name ≡ None
AgreesOn entries name (Err fault.Exists) = ⊤
AgreesOn entries name (Err fault.NotDir) = ⊤
AgreesOn entries name (Err (fault.Trouble e)) = ⊤
