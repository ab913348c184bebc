-- Files in memory below a super-root, and references that go into them.
use Rattle.std.specs.Prelude.{◌≡◌, ℕ, List, Option, Some, None, slice_get}
use Rattle.h2_ref.specs.declared.reference.Ref.{Ref}
use Rattle.h2_inode.specs.declared.inode.Inode.{Inode}
use Rattle.h2_inode.specs.declared.kind.InodeKind.TheVariants.{File}
use Rattle.h2_set.specs.Forest.{Forest}
use Rattle.h2_inode.specs.Nodes.{Fields, HasInode, IsUnloaded, IsPlantable}
use Rattle.h2_file.specs.Linking.{IsBlock}

-- the inode of a file, which can be planted
pub record IsNewFile (i : Inode) : Type 0 where
  pub kind : i.kind ≡ File
  pub plantable : IsPlantable i

-- node at is the root of an inode
abbrev pub HasSomeInode : Forest → (ℕ → Option Fields) → ℕ → Type 0
HasSomeInode f holds at = (i : Inode) × HasInode f holds at i

-- where no leaf had the key before, no inode that the leaf with the key names is loaded
abbrev pub IfNewUnloaded : Forest → ℕ → ℕ → Option Ref → Type 0
IfNewUnloaded f top key None = IsUnloaded f top key
IfNewUnloaded f top key (Some old) = Unit {0}

-- each of the references may be put into a file
abbrev pub AreEachBlocks : List Ref → Type 0
AreEachBlocks rs = (i : ℕ) (r : Ref) → slice_get rs i ≡ Some r → IsBlock r
