-- What a change of one tree leaves of the others.
use Rattle.std.specs.Prelude.{◌≡◌, ℕ, true, false, List, Option, Some}
use Rattle.h2_num.specs.Places.{Places}
use Rattle.h2_ref.specs.declared.reference.Ref.{Ref}
use Rattle.h2_set.specs.RefSet.{RefSet}
use Rattle.h2_set.specs.Forest.{Forest, LeavesOf, KeepsLeaves, Reaches, IsRootOf, IsSound}
use Rattle.h2_set.specs.Calls.{InPlace, names_node, IsRenewed}
use Rattle.h2_set.specs.PathLaws.{PathRenewed}
use Rattle.h2_inode.specs.declared.inode.Body.{Body}
use Rattle.h2_inode.specs.declared.inode.Body.TheVariants.{Refs, Bytes}
use Rattle.h2_inode.specs.declared.inode.Inode.{Inode}
use Rattle.h2_inode.specs.Nodes.{HasInode, IsUnloaded, IsBare}
use Rattle.h2_inode.specs.Access.{OneByOne}
use Rattle.h2_inode.specs.Following.{Passage}
use Rattle.h2_inode.specs.Loaded.{Tree, at_root, of_leaves, View, reading, TellsOn}

-- the body with another set; one that is bytes has none
abbrev pub body_with : Body → RefSet → Body
body_with (Refs s) set = Refs set
body_with (Bytes bytes) set = Bytes bytes

-- the inode with another set
abbrev pub with_set : Inode → RefSet → Inode
with_set i set = record { kind = i.kind; number = i.number; size = i.size; links = i.links; next = i.next; name = i.name; body = body_with i.body set }

-- Root c stands where it stood and has the same inode, its tree has the same leaves and the same loaded paths, and its
-- leaves name the roots that they named, and no others.
pub record KeepsTree (u v : View) (c : ℕ) : Type 0 where
  pub place : InPlace u.forest v.forest c
  pub inode : (i : Inode) → HasInode u.forest u.holds c i → HasInode v.forest v.holds c i
  pub leaves : KeepsLeaves u.forest v.forest c
  pub paths : (key : ℕ) (o : Option Ref) → Reaches u.forest key c o → Reaches v.forest key c o
  pub named : (key d : ℕ) → IsRootOf u.forest c key d → IsRootOf v.forest c key d
  pub unloaded : (key : ℕ) → IsUnloaded u.forest c key → IsUnloaded v.forest c key
  -- of what a leaf named of which nothing was loaded, nothing is
  pub bare : (key : ℕ) → IsBare u.forest c key → IsBare v.forest c key

-- A leaf of root c after a change: the same, but for where the block of its inode lies, and the very same where nothing
-- was loaded of that.
pub record LeafRenewed (f : Forest) (c : ℕ) (r q : Ref) : Type 0 where
  pub renewed : IsRenewed r q
  pub same : IsBare f c r.key → q ≡ r

-- the leaves of root c after a change, one by one
pub record ListRenewed (f g : Forest) (c : ℕ) (l : List Ref) : Type 0 where
  pub list : List Ref
  pub leaves : LeavesOf g c list
  pub each : OneByOne (LeafRenewed f c) l list

-- So it does, but for where the blocks of inodes and indirect blocks lie, of which references of the tree tell.
pub record RenewsTree (u v : View) (c : ℕ) : Type 0 where
  pub place : InPlace u.forest v.forest c
  pub inode : (i : Inode) → HasInode u.forest u.holds c i → HasInode v.forest v.holds c (with_set i (v.forest.set c))
  pub leaves : (l : List Ref) → LeavesOf u.forest c l → ListRenewed u.forest v.forest c l
  pub paths : (key : ℕ) (o : Option Ref) → Reaches u.forest key c o → PathRenewed v.forest key c o
  pub named : (key d : ℕ) → IsRootOf u.forest c key d → IsRootOf v.forest c key d
  pub unloaded : (key : ℕ) → IsUnloaded u.forest c key → IsUnloaded v.forest c key
  pub bare : (key : ℕ) → IsBare u.forest c key → IsBare v.forest c key
  -- a loaded path to a leaf of whose inode nothing was loaded leads to the very same leaf
  pub same : (key : ℕ) (r : Ref) → IsBare u.forest c r.key → Reaches u.forest key c (Some r) → Reaches v.forest key c (Some r)

-- all other roots than this one do so
abbrev pub RenewsOthers : View → View → ℕ → Type 0
RenewsOthers u v at = (c : ℕ) → u.forest.stands c ≡ true → u.forest.root c ≡ c → (c ≡ at → ⊥) → RenewsTree u v c

-- How trees are read that are kept

-- The roots of which P holds keep their trees, and it holds of the roots that their leaves name. What was told is told.
pub record KeepsTrees (u v : View) (P : ℕ → Type 0) : Type 0 where
  pub trees : (c : ℕ) → P c → KeepsTree u v c
  pub closed : (c key d : ℕ) → P c → IsRootOf u.forest c key d → P d
  pub told : TellsOn u v
  pub name : (r : Ref) (name : List ℕ) → u.forest.name r ≡ Some name → v.forest.name r ≡ Some name

-- the trees are that of one root of which P holds, or the same leaves are told
abbrev pub IsTreeOf : (ℕ → Type 0) → Tree → Tree → Type 0
IsTreeOf P (at_root m) (at_root n) = (n ≡ m) × P m
IsTreeOf P (at_root m) (of_leaves l) = ⊥
IsTreeOf P (of_leaves l) (at_root n) = ⊥
IsTreeOf P (of_leaves l) (of_leaves k) = k ≡ l

-- the reading before a change beside the one after it, at these trees
abbrev pub over_change : View → View → (ℕ → Type 0) → (Ref → Places → Type 0) → Passage
over_change u v P Content = record {
  from = reading u Content;
  to = reading v Content;
  Matches = IsTreeOf P;
  Like = λ t w r s. (s ≡ r) × IsTreeOf P t w;
}

-- How trees are read that are renewed

-- The roots of which P holds have their trees renewed, and it holds of the roots that their leaves name. The forest before
-- is sound, so that of an inode which isn't loaded nothing is. What was told is told, and no leaf that names a node has a
-- name told.
pub record RenewsTrees (u v : View) (P : ℕ → Type 0) : Type 0 where
  pub trees : (c : ℕ) → P c → RenewsTree u v c
  pub closed : (c key d : ℕ) → P c → IsRootOf u.forest c key d → P d
  pub sound : IsSound u.forest
  pub told : TellsOn u v
  pub name : (r : Ref) (name : List ℕ) → u.forest.name r ≡ Some name → v.forest.name r ≡ Some name
  pub plain : (r : Ref) (name : List ℕ) → u.forest.name r ≡ Some name → names_node r.kind ≡ false

-- a leaf of the tree before the change and after it
abbrev pub IsLeafRenewed : View → Tree → Ref → Ref → Type 0
IsLeafRenewed u (at_root c) r s = LeafRenewed u.forest c r s
IsLeafRenewed u (of_leaves l) r s = s ≡ r

-- the reading before a change beside the one after it, at trees that are renewed
abbrev pub over_renewal : View → View → (ℕ → Type 0) → (Ref → Places → Type 0) → Passage
over_renewal u v P Content = record {
  from = reading u Content;
  to = reading v Content;
  Matches = IsTreeOf P;
  Like = λ t w r s. IsLeafRenewed u t r s × IsTreeOf P t w;
}
