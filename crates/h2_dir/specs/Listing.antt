-- The entries of a directory, listed by name.
use Rattle.std.specs.Prelude.{◌≡◌, ◌≤◌, ◌⊎◌, ℕ, ◌-◌, ◌^◌, List, IsPermutation, IsSorted, Some, slice_get}
use Rattle.std.specs.declared.cmp.Ordering.{Ordering}
use Rattle.std.specs.Ordering.{nat_cmp, ordering_then}
use Rattle.std.specs.Cmp.Lexicographic.{slice_cmp}
use Rattle.h2_ref.specs.declared.faults.Trouble.{Trouble}
use Rattle.std.specs.FinMap.{entries}
use Rattle.h2_ref.specs.declared.faults.Trouble.TheVariants.{NoMemory}
use Rattle.h2_ref.specs.declared.reference.Dirent.{Dirent}
use Rattle.h2_ref.specs.declared.reference.Ref.{Ref}
use Rattle.h2_ref.specs.Ref.{IsValid}
use Rattle.h2_set.specs.Forest.{Forest, Reaches}
use Rattle.h2_set.specs.Calls.{HasCause}
use Rattle.h2_tree.specs.Changes.{Lists, RangeUnloaded}
use Rattle.h2_inode.specs.declared.kind.InodeKind.{InodeKind}
use Rattle.h2_inode.specs.declared.kind.InodeKind.TheVariants.{Directory}
use Rattle.h2_inode.specs.Access.{OneByOne}
use Rattle.h2_inode.specs.Directory.{Entries}
use Rattle.h2_dir.specs.declared.fault.DirFault.{DirFault}
use Rattle.h2_dir.specs.declared.fault.DirFault.TheVariants as fault
use Rattle.h2_dir.specs.Names.{MayBeNamed}

-- a valid leaf that is an entry
pub record IsEntryLeaf (leaf : Ref) : Type 0 where
  pub valid : IsValid leaf
  pub entry : Dirent
  pub entry_is : leaf.dirent ≡ Some entry

-- the name and the number of an entry
pub record SaysEntry (f : Forest) (leaf : Ref) (named : List ℕ × ℕ) : Type 0 where
  pub name : MayBeNamed f leaf named.0
  pub number : (entry : Dirent) → leaf.dirent ≡ Some entry → named.1 ≡ entry.number

-- by name in byte order, and then by number
abbrev pub by_name : List ℕ × ℕ → List ℕ × ℕ → Ordering
by_name x y = ordering_then (slice_cmp nat_cmp x.0 y.0) (nat_cmp x.1 y.1)

-- the list has the entries of all leaves, each once, in byte order of their names
pub record IsListing (f : Forest) (dir : ℕ) (listed : List (List ℕ × ℕ)) : Type 0 where
  pub leaves : List Ref
  pub all : Lists f dir (2 ^ 63) (2 ^ 64 - 1) leaves
  pub named : List (List ℕ × ℕ)
  pub each : OneByOne (SaysEntry f) leaves named
  pub same : IsPermutation named listed
  pub sorted : IsSorted by_name listed

-- the entry's name has a block of its own
pub record HasLongName (leaf : Ref) : Type 0 where
  pub entry : Dirent
  pub entry_is : leaf.dirent ≡ Some entry
  pub long : 65 ≤ entry.len

-- a leaf of the list has a name with a block of its own
pub record AnyLongName (leaves : List Ref) : Type 0 where
  pub place : ℕ
  pub leaf : Ref
  pub read : slice_get leaves place ≡ Some leaf
  pub long : HasLongName leaf

-- A load that listing needs: one of a node that may have entries, or one of an entry's name. The entries are loaded then.
abbrev pub ListMayLoad : Forest → Forest → ℕ → Trouble → Type 0
ListMayLoad f g dir e = (e ≡ NoMemory) ⊎ (RangeUnloaded f (2 ^ 63) (2 ^ 64 - 1) dir ⊎ ((leaf : Ref) × Reaches g leaf.key dir (Some leaf) × HasLongName leaf))

-- the entries of a map in byte order of their names
abbrev pub entries_of : Entries → List (List ℕ × ℕ)
entries_of m = entries m

-- why there is no list
abbrev pub ListFails : Forest → Forest → InodeKind → ℕ → DirFault → Type 0
ListFails f g kind dir fault.NoEntry = ⊥
ListFails f g kind dir fault.Exists = ⊥
ListFails f g kind dir fault.NotDir = kind ≡ Directory → ⊥
ListFails f g kind dir (fault.Trouble e) = (kind ≡ Directory) × HasCause f g e × ListMayLoad f g dir e
