-- How a PFS is removed.
use Rattle.std.specs.Prelude.{◌≡◌, ℕ, true, false, List, Option, Some, None}
use Rattle.h2_ref.specs.declared.reference.Ref.{Ref}
use Rattle.h2_set.specs.Forest.{Forest, Reaches, IsRootOf}
use Rattle.h2_set.specs.Calls.{KeepsBeside}
use Rattle.h2_tree.specs.Changes.{Removes, KeepsPaths}
use Rattle.h2_inode.specs.declared.inode.Inode.{Inode}
use Rattle.h2_inode.specs.Nodes.{Fields, Told, HasInode, Visits}
use Rattle.h2_inode.specs.PfsList.{ListedPfs}
use Rattle.h2_inode.specs.Loaded.{StandsAlike}
use Rattle.h2_pfs.specs.Listing.{id_of, without_id, HasPfss}
use Rattle.h2_pfs.specs.Meets.{HasId, LoadsPfss}
use Rattle.h2_pfs.specs.Others.{KeepsOtherTrees}

-- the leaf with this key names a PFS that is loaded and has another name
pub record HasOtherName (f : Forest) (holds : ℕ → Option Fields) (top key : ℕ) (name : List ℕ) : Type 0 where
  pub node : ℕ
  pub named : IsRootOf f top key node
  pub inode : Inode
  pub has : HasInode f holds node inode
  pub other : inode.name ≡ name → ⊥

-- nothing is held that belongs to a PFS of this name
abbrev pub NoneHeld : Forest → (ℕ → Option Fields) → ℕ → List ℕ → Type 0
NoneHeld f holds top name = (m key : ℕ) → f.held m ≡ true → f.belongs m top key ≡ true → HasOtherName f holds top key name

-- Once all leaves and the inodes that they name were loaded, while all trees stand for what they stood for, the
-- leaf of the PFS with the name went out, and with it all that belongs to it. Other trees stay, whatever is told then.
pub record RemovesPfs (f g : Forest) (old new : ℕ → Option Fields) (was : Ref → Option Told) (top : ℕ) (name : List ℕ) : Type 0 where
  pub then : Forest
  pub holds : ℕ → Option Fields
  pub tells : Ref → Option Told
  pub visits : Visits f then
  pub alike : StandsAlike (record { forest = f; holds = old; tells = was }) (record { forest = then; holds = holds; tells = tells })
  pub loads : LoadsPfss f then top
  pub before : KeepsBeside f then old holds
  pub after : KeepsBeside then g holds new
  pub leaf : Ref
  pub found : HasId then holds top name (Some leaf.key)
  pub removes : Removes then g top leaf
  pub paths : KeepsPaths then g top leaf
  pub path : Reaches g leaf.key top None
  pub gone : (m : ℕ) → then.stands m ≡ true → then.belongs m top leaf.key ≡ true → g.stands m ≡ false
  pub others : (now : Ref → Option Told) → KeepsOtherTrees (record { forest = then; holds = holds; tells = tells }) (record { forest = g; holds = new; tells = now }) top (λ c. then.belongs c top leaf.key ≡ true)

-- where the tree stood for a list of PFSs, one of them has the name, and the tree stands for the others now
abbrev pub DropsPfs : (f g : Forest) (old new : ℕ → Option Fields) (was now : Ref → Option Told) → ℕ → List ℕ → Type 0
DropsPfs f g old new was now top name = (next : ℕ) (known : List ListedPfs) → HasPfss f old was top next known → (id : ℕ) × (id_of name known ≡ Some id) × HasPfss g new now top next (without_id id known)
