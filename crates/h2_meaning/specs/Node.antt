-- What inodes stand for, and the inodes of a tree.
use Rattle.std.specs.Prelude.{◌≡◌, ℕ, List}
use Rattle.h2_ref.specs.declared.reference.Kind.TheVariants.{Inode as Inode_kind}
use Rattle.h2_ref.specs.declared.reference.Ref.{Ref}
use Rattle.h2_inode.specs.declared.kind.InodeKind.{InodeKind}
use Rattle.h2_inode.specs.declared.kind.InodeKind.TheVariants.{Directory as Directory_kind, File as File_kind, Pfs as Pfs_kind}
use Rattle.h2_inode.specs.declared.inode.Body.{Body}
use Rattle.h2_inode.specs.declared.inode.Body.TheVariants.{Refs, Bytes}
use Rattle.h2_inode.specs.declared.inode.Inode.{Inode}
use Rattle.h2_forest.specs.declared.table.Node.{Node}
use Rattle.h2_forest.specs.declared.table.Node.TheVariants.{File, Directory}
use Rattle.h2_inode.specs.Access.{Access, HasLeaves, OneByOne}
use Rattle.h2_inode.specs.Embedded.{HasBytes}
use Rattle.h2_inode.specs.Directory.{IsDirectory}

-- Target says which numbers an entry may name, by what it says of the kind: 1 for a directory, 2 for a file.
module _ (a : Access) (Target : ℕ → ℕ → Type 0) where
  -- an inode of this kind with this body and tree is this directory or file
  abbrev pub IsNodeBy : a.Tree → Inode → InodeKind → Body → Node → Type 0
  IsNodeBy t i Directory_kind (Refs s) (Directory entries) = IsDirectory a Target t i.size entries
  IsNodeBy t i Directory_kind (Refs s) (File bytes links) = ⊥
  IsNodeBy t i Directory_kind (Bytes body) node = ⊥
  IsNodeBy t i File_kind body (Directory entries) = ⊥
  IsNodeBy t i File_kind body (File bytes links) = HasBytes a t i.size body bytes × (links ≡ i.links)
  IsNodeBy t i Pfs_kind body node = ⊥

  -- the inode with this tree is this directory or file
  abbrev pub IsNode : a.Tree → Inode → Node → Type 0
  IsNode t i node = IsNodeBy t i i.kind i.body node

  -- the leaf names the inode with this number
  pub record IsMember (t : a.Tree) (r : Ref) (member : ℕ × Node) : Type 0 where
    pub kind_is : r.kind ≡ Inode_kind
    pub inode : Inode
    pub tree : a.Tree
    pub read : a.InodeOf t r inode tree
    pub number_is : member.0 ≡ r.key
    pub numbered : inode.number ≡ r.key
    pub node_is : IsNode tree inode member.1

  -- the tree holds these inodes
  pub record HasMembers (t : a.Tree) (members : List (ℕ × Node)) : Type 0 where
    pub leaves : List Ref
    pub has : HasLeaves a t leaves
    pub each : OneByOne (IsMember t) leaves members
