-- A PFS in memory, and its root directory.
use Rattle.std.specs.Prelude.{◌≡◌, ℕ, true, Option, []}
use Rattle.h2_set.specs.Forest.{Forest}
use Rattle.h2_inode.specs.declared.inode.Inode.{Inode}
use Rattle.h2_inode.specs.declared.kind.InodeKind.TheVariants.{Directory, Pfs}
use Rattle.h2_inode.specs.declared.inode.Body.TheVariants.{Refs}
use Rattle.h2_inode.specs.Nodes.{Fields, HasInode, IsPlantable}

-- the node is the root of a tree
pub record IsRootOfTree (f : Forest) (at : ℕ) : Type 0 where
  pub stands : f.stands at ≡ true
  pub root : f.root at ≡ at

-- node dir is the root of a directory's inode, and not the super-root
pub record IsOpened (f : Forest) (holds : ℕ → Option Fields) (root dir : ℕ) : Type 0 where
  pub inode : Inode
  pub has : HasInode f holds dir inode
  pub kind : inode.kind ≡ Directory
  pub apart : dir ≡ root → ⊥

-- PFS 1, with a tree without leaves
pub record IsNewPfs (i : Inode) : Type 0 where
  pub kind : i.kind ≡ Pfs
  pub number : i.number ≡ 1
  pub body : i.body ≡ Refs (record { refs = []; capacity = 4 })
  pub plantable : IsPlantable i
