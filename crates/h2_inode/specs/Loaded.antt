-- How the trees of a forest of inodes are read: from its loaded nodes, and from what is told of blocks that aren't.
use Rattle.std.specs.Prelude.{◌≡◌, ◌⊎◌, ℕ, true, false, List, Contains, Option, Some}
use Rattle.h2_num.specs.Places.{Places, SameBelow}
use Rattle.h2_ref.specs.declared.reference.Ref.{Ref}
use Rattle.h2_set.specs.Forest.{Forest, LeavesOf, KeepsLeaves, IsRootOf}
use Rattle.h2_inode.specs.declared.inode.Inode.{Inode}
use Rattle.h2_inode.specs.Nodes.{Fields, held_by, Told, HasInode, IsUnloaded}
use Rattle.h2_inode.specs.Access.{Access}
use Rattle.h2_inode.specs.Following.{Passage}

-- A tree: the one below a root that stands, or one that isn't loaded and whose leaves are told.
pub data Tree : Type 0 where
  at_root : ℕ → Tree
  of_leaves : List Ref → Tree

-- the leaves are those below the root, where they are known, or those that are told
abbrev pub HasAsLeaves : Forest → Tree → List Ref → Type 0
HasAsLeaves f (at_root at) l = LeavesOf f at l
HasAsLeaves f (of_leaves told) l = l ≡ told

-- the block of the inode that the leaf names is told to hold this inode, and below it these leaves
abbrev pub IsTold : (Ref → Option Told) → Ref → Inode → Tree → Type 0
IsTold tells leaf i t = (x : Told) × (tells leaf ≡ Some x) × (i ≡ x.inode) × (t ≡ of_leaves x.leaves)

-- the inode that the leaf with this key names in the tree of root top is loaded: this one, with this tree
abbrev pub IsLoaded : Forest → (ℕ → Option Fields) → ℕ → ℕ → Inode → Tree → Type 0
IsLoaded f holds top key i t = (c : ℕ) × IsRootOf f top key c × HasInode f holds c i × (t ≡ at_root c)

-- The inode that a leaf of the tree names, and the tree below it: where it is loaded, those of its root, which may
-- have changed, and else what is told.
abbrev pub NamesInode : Forest → (ℕ → Option Fields) → (Ref → Option Told) → Tree → Ref → Inode → Tree → Type 0
NamesInode f holds tells (at_root top) leaf i t = IsLoaded f holds top leaf.key i t ⊎ (IsUnloaded f top leaf.key × IsTold tells leaf i t)
NamesInode f holds tells (of_leaves told) leaf i t = IsTold tells leaf i t

-- The reading of a forest of inodes, by what its roots hold beside their sets, and by what is told of the blocks of
-- inodes. Nodes hold no contents: which bytes the blocks of content have is said by Content.
abbrev pub loaded_nodes : Forest → (ℕ → Option Fields) → (Ref → Option Told) → (Ref → Places → Type 0) → Access
loaded_nodes f holds tells Content = record {
  Tree = Tree;
  LeavesOf = HasAsLeaves f;
  InodeOf = NamesInode f holds tells;
  NameOf = λ t r name. f.name r ≡ Some name;
  ContentOf = λ t r block. Content r block;
}

-- no block of content is read: enough for directories and lists of PFSs
abbrev pub no_content : Ref → Places → Type 0
no_content r block = ⊥

-- each reference has the bytes of one block at most
abbrev pub BlocksOne : (Ref → Places → Type 0) → Type 0
BlocksOne Content = (r : Ref) (x y : Places) → Content r x → Content r y → SameBelow 16384 x y

-- What is seen of a forest of inodes, and what trees stand for while it is loaded

-- what a reading is made of, but for contents
pub record View : Type 0 where
  pub forest : Forest
  pub holds : ℕ → Option Fields
  pub tells : Ref → Option Told

-- the view of a value of Nodes, by its forest, by what it keeps beside the sets of roots, and by what it tells
abbrev pub view_of : {B : Type 0} → (B → Option Fields) → Forest → (ℕ → B) → (Ref → Option Told) → View
view_of fields f beside tells = record { forest = f; holds = held_by fields beside; tells = tells }

-- the reading of loaded nodes by a view, with the contents of blocks
abbrev pub reading : View → (Ref → Places → Type 0) → Access
reading v Content = loaded_nodes v.forest v.holds v.tells Content

-- what is held beside the sets of nodes that stand stays
abbrev pub HoldsOn : View → View → Type 0
HoldsOn u v = (m : ℕ) → u.forest.stands m ≡ true → v.forest.stands m ≡ true → v.holds m ≡ u.holds m

-- so it does but for one root
abbrev pub HoldsBut : ℕ → View → View → Type 0
HoldsBut at u v = (m : ℕ) → (m ≡ at → ⊥) → u.forest.stands m ≡ true → v.forest.stands m ≡ true → v.holds m ≡ u.holds m

-- what was told is told
abbrev pub TellsOn : View → View → Type 0
TellsOn u v = (r : Ref) (x : Told) → u.tells r ≡ Some x → v.tells r ≡ Some x

-- the second view has the tree of the first: it stands below the same root, or the same leaves are told, or its root
-- has come, with the leaves that were told
abbrev pub IsSameTree : View → View → Tree → Tree → Type 0
IsSameTree u v (at_root m) (at_root n) = (n ≡ m) × (u.forest.stands m ≡ true)
IsSameTree u v (at_root m) (of_leaves l) = ⊥
IsSameTree u v (of_leaves l) (at_root n) = (u.forest.stands n ≡ false) × (v.forest.stands n ≡ true) × LeavesOf v.forest n l
IsSameTree u v (of_leaves l) (of_leaves m) = m ≡ l

-- the leaf is one of the tree
abbrev pub IsLeafOf : View → Tree → Ref → Type 0
IsLeafOf v t r = (l : List Ref) × HasAsLeaves v.forest t l × Contains l r

-- All roots that stood stand, with the leaves that are known, and each leaf names the same inode with the same tree.
pub record Rereads (u v : View) : Type 0 where
  pub stands : (m : ℕ) → u.forest.stands m ≡ true → v.forest.stands m ≡ true
  pub leaves : (m : ℕ) → u.forest.stands m ≡ true → KeepsLeaves u.forest v.forest m
  pub inode : (top : ℕ) (r : Ref) (i : Inode) (t : Tree) → u.forest.stands top ≡ true → IsLeafOf u (at_root top) r → NamesInode u.forest u.holds u.tells (at_root top) r i t
      → (w : Tree) × NamesInode v.forest v.holds v.tells (at_root top) r i w × IsSameTree u v t w
  -- below a root that came no inode is loaded
  pub bare : (top key : ℕ) → u.forest.stands top ≡ false → v.forest.stands top ≡ true → IsUnloaded v.forest top key
  pub told : (r : Ref) (x : Told) → u.tells r ≡ Some x → v.tells r ≡ Some x
  pub name : (r : Ref) (name : List ℕ) → u.forest.name r ≡ Some name → v.forest.name r ≡ Some name

-- By some loads one after the other, each of which keeps what is read, the first view became the second one. So each
-- tree stands for what it stood for.
pub data StandsAlike : View → View → Type 0 where
  as_before : {u : View} → StandsAlike u u
  by_load : {u v w : View} → Rereads u v → StandsAlike v w → StandsAlike u w

-- one reading beside a later one
abbrev pub over_loads : View → View → (Ref → Places → Type 0) → Passage
over_loads u v Content = record {
  from = reading u Content;
  to = reading v Content;
  Matches = IsSameTree u v;
  Like = λ t w r s. (s ≡ r) × IsLeafOf u t r × IsSameTree u v t w;
}
