-- Where names lead from inode to inode of a PFS.
use Rattle.std.specs.Prelude.{◌≡◌, ◌⊎◌, ◌≤◌, ◌<◌, ◌+◌, ◌^◌, ℕ, true, false, List, [], ◌∷◌, Option, None, Result, Ok, Err}
use Rattle.h2_ref.specs.declared.reference.Dirent.{Dirent}
use Rattle.h2_ref.specs.declared.reference.Ref.{Ref}
use Rattle.h2_ref.specs.declared.faults.Trouble.TheVariants.{NoMemory}
use Rattle.h2_set.specs.Forest.{Forest, Reaches, IsRootOf}
use Rattle.h2_set.specs.Calls.{HasCause}
use Rattle.h2_tree.specs.Changes.{PathUnloaded, RangeUnloaded}
use Rattle.h2_dirkey.specs.Key.{least_key}
use Rattle.h2_inode.specs.declared.inode.Inode.{Inode}
use Rattle.h2_inode.specs.declared.kind.InodeKind.TheVariants.{Directory, Pfs}
use Rattle.h2_inode.specs.Nodes.{Fields, HasInode, IsInodeLeaf, IsUnloaded}
use Rattle.h2_dir.specs.declared.fault.DirFault.{DirFault}
use Rattle.h2_dir.specs.declared.fault.DirFault.TheVariants as fault
use Rattle.h2_dir.specs.Finding.{last_key, HasLongCandidate, IsFound, IsMissing}

-- the PFS has the inode with this number: this one, loaded with this root
pub record IsMember (f : Forest) (holds : ℕ → Option Fields) (pfs number root : ℕ) (inode : Inode) : Type 0 where
  pub leaf : Ref
  pub is_leaf : IsInodeLeaf f pfs leaf
  pub key_is : leaf.key ≡ number
  pub named : IsRootOf f pfs number root
  pub has : HasInode f holds root inode

-- Where the names lead from an inode on, from left to right: each name but the first is looked up in what the one
-- before it names. A name is missing in a directory, or it is looked up in what is no directory: a file, or nothing.
pub data Leads (f : Forest) (holds : ℕ → Option Fields) (pfs : ℕ) : ℕ → List (List ℕ) → Result ℕ DirFault → Type 0 where
  arrived : {number : ℕ} → Leads f holds pfs number [] (Ok number)
  onward : {number : ℕ} {name : List ℕ} {names : List (List ℕ)} {result : Result ℕ DirFault} → (root key : ℕ) (inode : Inode) (entry : Dirent) → IsMember f holds pfs number root inode → inode.kind ≡ Directory → IsFound f root name key entry
      → Leads f holds pfs entry.number names result → Leads f holds pfs number (name ∷ names) result
  missing : {number : ℕ} {name : List ℕ} {names : List (List ℕ)} → (root : ℕ) (inode : Inode) → IsMember f holds pfs number root inode → inode.kind ≡ Directory → IsMissing f root name → Leads f holds pfs number (name ∷ names) (Err fault.NoEntry)
  in_file : {number : ℕ} {name : List ℕ} {names : List (List ℕ)} → (root : ℕ) (inode : Inode) → IsMember f holds pfs number root inode → (inode.kind ≡ Directory → ⊥) → Leads f holds pfs number (name ∷ names) (Err fault.NotDir)
  in_nothing : {number : ℕ} {name : List ℕ} {names : List (List ℕ)} → Reaches f number pfs None → Leads f holds pfs number (name ∷ names) (Err fault.NotDir)

-- A load that a search for the name below a root needs: of a node whose range has a key of the name, or of the block
-- of such an entry's name. Where the inode itself came by a load, it's said of that.
abbrev pub SearchLoads : Forest → Forest → ℕ → List ℕ → Type 0
SearchLoads f g root name = (f.stands root ≡ false) ⊎ (RangeUnloaded f (least_key name) (last_key name) root ⊎ HasLongCandidate g root name)

-- A load that one step needs, from the inode with this number by the name: of a node on the path of the number, of the
-- inode, or one that the search needs.
pub data StepLoads (f g : Forest) (holds : ℕ → Option Fields) (pfs number : ℕ) (name : List ℕ) : Type 0 where
  by_node : PathUnloaded f pfs number → StepLoads f g holds pfs number name
  by_inode : (leaf : Ref) → IsInodeLeaf g pfs leaf → leaf.key ≡ number → IsUnloaded f pfs number → StepLoads f g holds pfs number name
  by_search : (root : ℕ) (inode : Inode) → IsMember g holds pfs number root inode → inode.kind ≡ Directory → SearchLoads f g root name → StepLoads f g holds pfs number name

-- a load that the names from an inode on need: one of the first step, or, where that leads on, one of a later one
pub data WalkLoads (f g : Forest) (holds : ℕ → Option Fields) (pfs : ℕ) : ℕ → List (List ℕ) → Type 0 where
  at_once : {number : ℕ} {name : List ℕ} {names : List (List ℕ)} → StepLoads f g holds pfs number name → WalkLoads f g holds pfs number (name ∷ names)
  further : {number : ℕ} {name : List ℕ} {names : List (List ℕ)} → (root key : ℕ) (inode : Inode) (entry : Dirent) → IsMember g holds pfs number root inode → inode.kind ≡ Directory → IsFound g root name key entry
      → WalkLoads f g holds pfs entry.number names → WalkLoads f g holds pfs number (name ∷ names)

-- what a walk from an inode came to; after a trouble, by which load
abbrev pub WalkEnds : Forest → Forest → (ℕ → Option Fields) → ℕ → ℕ → List (List ℕ) → Result ℕ DirFault → Type 0
WalkEnds f g holds pfs number names (Ok found) = Leads g holds pfs number names (Ok found)
WalkEnds f g holds pfs number names (Err fault.NoEntry) = Leads g holds pfs number names (Err fault.NoEntry)
WalkEnds f g holds pfs number names (Err fault.Exists) = ⊥
WalkEnds f g holds pfs number names (Err fault.NotDir) = Leads g holds pfs number names (Err fault.NotDir)
WalkEnds f g holds pfs number names (Err (fault.Trouble e)) = HasCause f g e × ((e ≡ NoMemory) ⊎ WalkLoads f g holds pfs number names)

-- the entry of a name in an inode, or why there is none
abbrev pub StepEnds : Forest → Forest → (ℕ → Option Fields) → ℕ → ℕ → List ℕ → Result ℕ DirFault → Type 0
StepEnds f g holds pfs number name (Ok found) = (root : ℕ) × (key : ℕ) × (inode : Inode) × (entry : Dirent) × IsMember g holds pfs number root inode × (inode.kind ≡ Directory) × IsFound g root name key entry × (entry.number ≡ found)
StepEnds f g holds pfs number name (Err fault.NoEntry) = (root : ℕ) × (inode : Inode) × IsMember g holds pfs number root inode × (inode.kind ≡ Directory) × IsMissing g root name
StepEnds f g holds pfs number name (Err fault.Exists) = ⊥
StepEnds f g holds pfs number name (Err fault.NotDir) = Reaches g number pfs None ⊎ ((root : ℕ) × (inode : Inode) × IsMember g holds pfs number root inode × (inode.kind ≡ Directory → ⊥))
StepEnds f g holds pfs number name (Err (fault.Trouble e)) = HasCause f g e × ((e ≡ NoMemory) ⊎ StepLoads f g holds pfs number name)

-- Which nodes a walk loads

-- none
abbrev pub LoadsNone : Forest → Forest → Type 0
LoadsNone f g = (m : ℕ) → g.stands m ≡ true → f.stands m ≡ true

-- the range of node m has a key from `from` to `to`
abbrev pub HasKeyOf : Forest → ℕ → ℕ → ℕ → Type 0
HasKeyOf f m from to = (f.low m ≤ to) × (from < f.low m + 2 ^ f.bits m)

-- Node m is one that a step needs, from the inode with this number by the name: of the PFS's tree, with the number in
-- its range; the root of that inode; or, where that is a directory, of its tree, with a key of the name in its range.
pub data StepNode (f : Forest) (holds : ℕ → Option Fields) (pfs number : ℕ) (name : List ℕ) (m : ℕ) : Type 0 where
  on_path : f.root m ≡ pfs → HasKeyOf f m number number → StepNode f holds pfs number name m
  its_inode : (inode : Inode) → IsMember f holds pfs number m inode → StepNode f holds pfs number name m
  in_search : (dir : ℕ) (inode : Inode) → IsMember f holds pfs number dir inode → inode.kind ≡ Directory → f.root m ≡ dir → HasKeyOf f m (least_key name) (last_key name) → StepNode f holds pfs number name m

-- each node that was loaded is one that the step needs
pub record LoadsStep (f g : Forest) (holds : ℕ → Option Fields) (pfs number : ℕ) (name : List ℕ) : Type 0 where
  pub only : (m : ℕ) → f.stands m ≡ false → g.stands m ≡ true → StepNode g holds pfs number name m

-- node m is one that the names from an inode on need: in the first step, or, where that leads on, in a later one
pub data WalkNode (f : Forest) (holds : ℕ → Option Fields) (pfs : ℕ) : ℕ → List (List ℕ) → ℕ → Type 0 where
  first_step : {number m : ℕ} {name : List ℕ} {names : List (List ℕ)} → StepNode f holds pfs number name m → WalkNode f holds pfs number (name ∷ names) m
  later_step : {number m : ℕ} {name : List ℕ} {names : List (List ℕ)} → (root key : ℕ) (inode : Inode) (entry : Dirent) → IsMember f holds pfs number root inode → inode.kind ≡ Directory → IsFound f root name key entry
      → WalkNode f holds pfs entry.number names m → WalkNode f holds pfs number (name ∷ names) m

-- each node that was loaded is one that the names need
pub record LoadsWalk (f g : Forest) (holds : ℕ → Option Fields) (pfs number : ℕ) (names : List (List ℕ)) : Type 0 where
  pub only : (m : ℕ) → f.stands m ≡ false → g.stands m ≡ true → WalkNode g holds pfs number names m

-- root pfs is that of a PFS's inode
pub record IsPfsRoot (f : Forest) (holds : ℕ → Option Fields) (pfs : ℕ) : Type 0 where
  pub inode : Inode
  pub has : HasInode f holds pfs inode
  pub kind : inode.kind ≡ Pfs
