-- Why calls on PFSs are refused.
use Rattle.std.specs.Prelude.{◌≡◌, ◌⊎◌, ◌<◌, ◌≤◌, ◌-◌, ◌^◌, ℕ, List, length, Option, Some, None}
use Rattle.h2_ref.specs.declared.faults.Trouble.{Trouble}
use Rattle.h2_ref.specs.declared.faults.Trouble.TheVariants.{NoMemory}
use Rattle.h2_set.specs.Forest.{Forest}
use Rattle.h2_set.specs.Calls.{HasCause, IsBad, MeetsNone, MeetsOnly}
use Rattle.h2_tree.specs.Changes.{RangeUnloaded, PathUnloaded}
use Rattle.h2_inode.specs.Nodes.{Fields}
use Rattle.h2_pfs.specs.declared.fault.PfsFault.{PfsFault}
use Rattle.h2_pfs.specs.declared.fault.PfsFault.TheVariants.{NoPfs, Exists, Full, InUse, Trouble as Troubled}
use Rattle.h2_inode.specs.PfsList.{ListedPfs}
use Rattle.h2_pfs.specs.Listing.{id_of}
use Rattle.h2_pfs.specs.Meets.{HasId, InodeMissing}

-- a node of the super-root's tree wasn't loaded, or an inode that a leaf of it names
abbrev pub SomeMissing : Forest → Forest → ℕ → Type 0
SomeMissing f g top = RangeUnloaded f 0 (2 ^ 64 - 1) top ⊎ InodeMissing f g top

-- trouble has its cause, and comes only where memory ran out or something wasn't loaded
pub record IsTrouble (f g : Forest) (top : ℕ) (t : Trouble) : Type 0 where
  pub cause : HasCause f g t
  pub only : (t ≡ NoMemory) ⊎ SomeMissing f g top

-- why no PFS is found: none has the name
abbrev pub IsFindFault : Forest → Forest → (ℕ → Option Fields) → ℕ → List ℕ → PfsFault → Type 0
IsFindFault f g holds top name NoPfs = HasId g holds top name None
IsFindFault f g holds top name Exists = ⊥
IsFindFault f g holds top name Full = ⊥
IsFindFault f g holds top name (InUse handles) = ⊥
IsFindFault f g holds top name (Troubled t) = IsTrouble f g top t

-- why a PFS isn't removed: none has the name, and otherwise handles are open in it
abbrev pub IsRemoveFault : Forest → Forest → (ℕ → Option Fields) → ℕ → List ℕ → ℕ → PfsFault → Type 0
IsRemoveFault f g holds top name handles NoPfs = HasId g holds top name None
IsRemoveFault f g holds top name handles Exists = ⊥
IsRemoveFault f g holds top name handles Full = ⊥
IsRemoveFault f g holds top name handles (InUse count) = ((id : ℕ) × HasId g holds top name (Some id)) × ((count ≡ handles) × (0 < handles))
IsRemoveFault f g holds top name handles (Troubled t) = IsTrouble f g top t

-- why no more PFS may have the name: one has it, and otherwise there are too many
abbrev pub IsSpaceFault : Forest → Forest → (ℕ → Option Fields) → ℕ → List ℕ → PfsFault → Type 0
IsSpaceFault f g holds top name NoPfs = ⊥
IsSpaceFault f g holds top name Exists = (id : ℕ) × HasId g holds top name (Some id)
IsSpaceFault f g holds top name Full = (h : HasId g holds top name None) × (64 ≤ length h.pfss)
IsSpaceFault f g holds top name (InUse handles) = ⊥
IsSpaceFault f g holds top name (Troubled t) = IsTrouble f g top t

-- why a PFS isn't added: no more may have the name, or the path of its id wasn't loaded
abbrev pub IsAddFault : Forest → Forest → (ℕ → Option Fields) → ℕ → List ℕ → ℕ → PfsFault → Type 0
IsAddFault f g holds top name id NoPfs = ⊥
IsAddFault f g holds top name id Exists = (other : ℕ) × HasId g holds top name (Some other)
IsAddFault f g holds top name id Full = (h : HasId g holds top name None) × (64 ≤ length h.pfss)
IsAddFault f g holds top name id (InUse handles) = ⊥
IsAddFault f g holds top name id (Troubled t) = IsTrouble f g top t ⊎ (HasCause f g t × PathUnloaded f top id)

-- of the faults of the disk just the one was met that is told, and that once
abbrev pub FaultMeetsOnly : Forest → Forest → PfsFault → Type 0
FaultMeetsOnly f g NoPfs = MeetsNone f g
FaultMeetsOnly f g Exists = MeetsNone f g
FaultMeetsOnly f g Full = MeetsNone f g
FaultMeetsOnly f g (InUse handles) = MeetsNone f g
FaultMeetsOnly f g (Troubled t) = MeetsOnly f g t

-- what a refusal says of the list of PFSs that the tree stood for; trouble is no bad block then
abbrev pub IsFaultIn : List ℕ → List ListedPfs → PfsFault → Type 0
IsFaultIn name pfss NoPfs = id_of name pfss ≡ None
IsFaultIn name pfss Exists = (id : ℕ) × (id_of name pfss ≡ Some id)
IsFaultIn name pfss Full = (id_of name pfss ≡ None) × (64 ≤ length pfss)
IsFaultIn name pfss (InUse handles) = (id : ℕ) × (id_of name pfss ≡ Some id)
IsFaultIn name pfss (Troubled t) = IsBad t → ⊥
