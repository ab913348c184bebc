-- What a scan of the super-root's tree meets: all of its leaves, and the inodes that they name.
use Rattle.std.specs.Prelude.{◌≡◌, ◌⊎◌, ℕ, ◌-◌, ◌^◌, true, false, List, Option, Some, slice_get}
use Rattle.h2_ref.specs.declared.reference.Ref.{Ref}
use Rattle.h2_set.specs.Ranges.{Rising}
use Rattle.h2_set.specs.Forest.{Forest, IsRootOf}
use Rattle.h2_tree.specs.Changes.{Lists}
use Rattle.h2_inode.specs.declared.inode.Inode.{Inode}
use Rattle.h2_inode.specs.Nodes.{Fields, Told, fields_of, HasInode, IsInodeLeaf, IsUnloaded}
use Rattle.h2_inode.specs.Access.{OneByOne}
use Rattle.h2_inode.specs.Loaded.{Tree, at_root, NamesInode}
use Rattle.h2_inode.specs.PfsList.{ListedPfs}
use Rattle.h2_pfs.specs.Listing.{id_of}

-- the inode that the leaf names is loaded, and is that of this PFS
pub record IsMet (f : Forest) (holds : ℕ → Option Fields) (top : ℕ) (r : Ref) (p : ListedPfs) : Type 0 where
  pub leaf : IsInodeLeaf f top r
  pub node : ℕ
  pub named : IsRootOf f top r.key node
  -- the leaf names no other root
  pub only : (c : ℕ) → IsRootOf f top r.key c → c ≡ node
  pub inode : Inode
  pub has : HasInode f holds node inode
  pub numbered : inode.number ≡ r.key
  pub id_is : p.id ≡ r.key
  pub name_is : p.name ≡ inode.name
  pub next_is : p.next ≡ inode.next

-- all leaves of the tree are loaded, and the inodes that they name are those of these PFSs, in the order of their ids
pub record Meets (f : Forest) (holds : ℕ → Option Fields) (top : ℕ) (pfss : List ListedPfs) : Type 0 where
  pub leaves : List Ref
  pub lists : Lists f top 0 (2 ^ 64 - 1) leaves
  pub each : OneByOne (IsMet f holds top) leaves pfss

-- all leaves and the inodes that they name are loaded, and the first PFS with the name has this id, or there is none
pub record HasId (f : Forest) (holds : ℕ → Option Fields) (top : ℕ) (name : List ℕ) (id : Option ℕ) : Type 0 where
  pub pfss : List ListedPfs
  pub meets : Meets f holds top pfss
  pub id_is : id_of name pfss ≡ id

-- the inode that a leaf names wasn't loaded before
pub record InodeMissing (f g : Forest) (top : ℕ) : Type 0 where
  pub leaf : Ref
  pub is_leaf : IsInodeLeaf g top leaf
  pub unloaded : IsUnloaded f top leaf.key

-- leaves of the tree that name inodes, by loaded paths, in the order of their keys
pub record AreLeaves (f : Forest) (top : ℕ) (leaves : List Ref) : Type 0 where
  pub rising : Rising 0 (2 ^ 64) leaves
  pub each : (i : ℕ) (r : Ref) → slice_get leaves i ≡ Some r → IsInodeLeaf f top r

-- where it is known which inode the leaf names, it has these fields
abbrev pub TellsFields : Forest → (ℕ → Option Fields) → (Ref → Option Told) → ℕ → Ref → Fields → Type 0
TellsFields f holds tells top r x = (i : Inode) (t : Tree) → NamesInode f holds tells (at_root top) r i t → x ≡ fields_of i

-- it is known which inode each of the leaves names
abbrev pub AreKnown : Forest → (ℕ → Option Fields) → (Ref → Option Told) → ℕ → List Ref → Type 0
AreKnown f holds tells top leaves = (j : ℕ) (r : Ref) → slice_get leaves j ≡ Some r → (i : Inode) × (t : Tree) × NamesInode f holds tells (at_root top) r i t

-- the leaf names an inode that is loaded now, and is the one that was known before
abbrev pub MetBy : (f g : Forest) → (ℕ → Option Fields) → (ℕ → Option Fields) → (Ref → Option Told) → ℕ → Ref → ListedPfs → Type 0
MetBy f g old new tells top r p = (met : IsMet g new top r p) × TellsFields f old tells top r (fields_of met.inode)

-- root m is that of an inode that a leaf of the tree names
abbrev pub IsNamedRoot : Forest → ℕ → ℕ → Type 0
IsNamedRoot f top m = (leaf : Ref) × IsInodeLeaf f top leaf × IsRootOf f top leaf.key m

-- each node that was loaded is of the super-root's tree, or the root of an inode that a leaf of it names
pub record LoadsPfss (f g : Forest) (top : ℕ) : Type 0 where
  pub only : (m : ℕ) → f.stands m ≡ false → g.stands m ≡ true → (g.root m ≡ top) ⊎ IsNamedRoot g top m
