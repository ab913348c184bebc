-- A change of one inode of a table or a forest: all other trees stay or are renewed, and the inode is replaced.
use Rattle.std.specs.Prelude.{◌≡◌, ◌⊎◌, ◌^◌, ℕ, List, map, cond, true, false, nat_eq, Some, ⊤}
use Rattle.std.specs.FinMap.{from_entries}
use Rattle.h2_num.specs.Places.{Places}
use Rattle.h2_ref.specs.declared.reference.Ref.{Ref}
use Rattle.h2_set.specs.Forest.{Forest, IsSound, IsRootOf, LeavesOf}
use Rattle.h2_set.specs.Ranges.{put, without, Rising}
use Rattle.h2_set.specs.Calls.{names_node}
use Rattle.h2_inode.specs.declared.kind.InodeKind.TheVariants.{Pfs as Pfs_kind}
use Rattle.h2_inode.specs.declared.inode.Inode.{Inode}
use Rattle.h2_inode.specs.Access.{Access}
use Rattle.h2_inode.specs.Nodes.{HasInode, IsUnloaded}
use Rattle.h2_inode.specs.Loaded.{at_root, View, reading, TellsOn}
use Rattle.h2_inode.specs.Others.{RenewsTree}
use Rattle.h2_forest.specs.declared.table.Node.{Node}
use Rattle.h2_forest.specs.declared.table.Node.TheVariants.{File, Directory}
use Rattle.h2_forest.specs.Table.{Table}
use Rattle.h2_forest.specs.declared.pfs.Pfs.{Pfs}
use Rattle.h2_forest.specs.Forest.{PlainForest}
use Rattle.h2_meaning.specs.Node.{IsNode, HasMembers}
use Rattle.h2_meaning.specs.Forest.{IsTable}

-- The roots of which P holds, but for root c, have their trees renewed, and it holds of the roots but c that their leaves
-- name. The forest before is sound. What was told is told, and no leaf that names a node has a name told.
pub record RenewsAllBut (u v : View) (P : ℕ → Type 0) (c : ℕ) : Type 0 where
  pub sound : IsSound u.forest
  pub trees : (d : ℕ) → P d → (d ≡ c → ⊥) → RenewsTree u v d
  pub closed : (d key e : ℕ) → P d → (d ≡ c → ⊥) → IsRootOf u.forest d key e → (e ≡ c → ⊥) → P e
  pub told : TellsOn u v
  pub name : (r : Ref) (name : List ℕ) → u.forest.name r ≡ Some name → v.forest.name r ≡ Some name
  pub plain : (r : Ref) (name : List ℕ) → u.forest.name r ≡ Some name → names_node r.kind ≡ false

-- the tree holds the inodes of the table, be it a file tree or not yet one
pub record HoldsNodes (a : Access) (Target : ℕ → ℕ → Type 0) (t : a.Tree) (table : Table) : Type 0 where
  pub members : List (ℕ × Node)
  pub has : HasMembers a Target t members
  pub table_is : table ≡ from_entries members

-- root c holds the inode with this number, which stands for the file or directory
pub record HoldsNode (v : View) (Content : Ref → Places → Type 0) (Target : ℕ → ℕ → Type 0) (c number : ℕ) (node : Node) : Type 0 where
  pub inode : Inode
  pub held : HasInode v.forest v.holds c inode
  pub numbered : inode.number ≡ number
  pub node_is : IsNode (reading v Content) Target (at_root c) inode node

-- both are files, or both are directories
abbrev pub SameKind : Node → Node → Type 0
SameKind (File bytes links) (File more others) = ⊤
SameKind (File bytes links) (Directory es) = ⊥
SameKind (Directory es) (File bytes links) = ⊥
SameKind (Directory es) (Directory fs) = ⊤

-- root c is t, or a leaf of the tree of t names it
abbrev pub IsIn : Forest → ℕ → ℕ → Type 0
IsIn f t c = (c ≡ t) ⊎ ((k : ℕ) × IsRootOf f t k c)

-- root c holds the inode of the PFS, and its tree the table
pub record HoldsPfs (v : View) (Content : Ref → Places → Type 0) (c : ℕ) (p : Pfs) : Type 0 where
  pub inode : Inode
  pub held : HasInode v.forest v.holds c inode
  pub pfs_is : inode.kind ≡ Pfs_kind
  pub numbered : inode.number ≡ p.id
  pub name_is : p.name ≡ inode.name
  pub next_is : p.next ≡ inode.next
  pub holds : IsTable (reading v Content) (at_root c) p.next p.table

-- the PFS in the place of one with its id
abbrev pub in_place_of : Pfs → Pfs → Pfs
in_place_of p old = cond (nat_eq old.id p.id) p old

-- the forest with the PFS in the place of the one with its id
abbrev pub with_pfs : PlainForest → Pfs → PlainForest
with_pfs f p = record f { pfss = map (in_place_of p) f.pfss }

-- Node t is a root that stands. The leaves of its tree but that with the key name what they named, roots of which P
-- holds, and where they named none that was loaded, they do so still. The leaves stand in order.
pub record KeepsNamedBut (u v : View) (P : ℕ → Type 0) (t but : ℕ) : Type 0 where
  pub stands : u.forest.stands t ≡ true
  pub root : u.forest.root t ≡ t
  pub ordered : (l : List Ref) → LeavesOf v.forest t l → Rising 0 (2 ^ 64) l
  pub named : (key d : ℕ) → (key ≡ but → ⊥) → IsRootOf u.forest t key d → IsRootOf v.forest t key d × P d
  pub unloaded : (key : ℕ) → (key ≡ but → ⊥) → IsUnloaded u.forest t key → IsUnloaded v.forest t key

-- root t has one leaf more, and its other leaves name what they named
pub record GainsLeaf (u v : View) (P : ℕ → Type 0) (t : ℕ) (leaf : Ref) : Type 0 where
  pub leaves : (l : List Ref) → LeavesOf u.forest t l → LeavesOf v.forest t (put leaf l)
  pub others : KeepsNamedBut u v P t leaf.key

-- root t has one leaf less, that with the key, and its other leaves name what they named
pub record LosesLeaf (u v : View) (P : ℕ → Type 0) (t key : ℕ) : Type 0 where
  pub leaves : (l : List Ref) → LeavesOf u.forest t l → LeavesOf v.forest t (without key l)
  pub others : KeepsNamedBut u v P t key
