-- The key that a new entry of a directory gets.
use Rattle.std.specs.Prelude.{◌≡◌, ◌≤◌, ◌<◌, ℕ, List, Some, None, Result, Ok, Err, IsSome, ⊤}
use Rattle.std.specs.FinMap.{get}
use Rattle.h2_ref.specs.declared.reference.Dirent.{Dirent}
use Rattle.h2_ref.specs.declared.reference.Ref.{Ref}
use Rattle.h2_set.specs.Forest.{Forest, Reaches}
use Rattle.h2_set.specs.Calls.{HasCause}
use Rattle.h2_dirkey.specs.Key.{least_key, IsNameUnder}
use Rattle.h2_inode.specs.declared.kind.InodeKind.{InodeKind}
use Rattle.h2_inode.specs.declared.kind.InodeKind.TheVariants.{Directory}
use Rattle.h2_inode.specs.Directory.{Entries}
use Rattle.h2_dir.specs.declared.fault.DirFault.{DirFault}
use Rattle.h2_dir.specs.declared.fault.DirFault.TheVariants as fault
use Rattle.h2_dir.specs.Finding.{IsFound, IsMissing, MayLoad}

-- No entry has the name, and the key is the least one of the name that no entry has. Its path is loaded.
pub record IsSpot (f : Forest) (dir : ℕ) (name : List ℕ) (key : ℕ) : Type 0 where
  pub missing : IsMissing f dir name
  pub under : IsNameUnder key name
  pub path : Reaches f key dir None
  pub used : (k : ℕ) → least_key name ≤ k → k < key → (leaf : Ref) × Reaches f k dir (Some leaf) × (leaf.key ≡ k)

-- an entry has the name
pub record IsTaken (f : Forest) (dir : ℕ) (name : List ℕ) : Type 0 where
  pub key : ℕ
  pub entry : Dirent
  pub found : IsFound f dir name key entry

-- why the name got no key
abbrev pub SpotFails : Forest → Forest → InodeKind → ℕ → List ℕ → DirFault → Type 0
SpotFails f g kind dir name fault.NoEntry = ⊥
SpotFails f g kind dir name fault.Exists = (kind ≡ Directory) × IsTaken g dir name
SpotFails f g kind dir name fault.NotDir = kind ≡ Directory → ⊥
SpotFails f g kind dir name (fault.Trouble e) = (kind ≡ Directory) × HasCause f g e × MayLoad f g dir name e

-- the answer agrees with the entries of the directory: a key only for a name that none has, Exists only for another
abbrev pub SpotAgrees : Entries → List ℕ → Result ℕ DirFault → Type 0
SpotAgrees entries name (Ok key) = get entries name ≡ None
SpotAgrees entries name (Err fault.NoEntry) = ⊤
SpotAgrees entries name (Err fault.Exists) = IsSome (get entries name)
SpotAgrees entries name (Err fault.NotDir) = ⊤
SpotAgrees entries name (Err (fault.Trouble e)) = ⊤
