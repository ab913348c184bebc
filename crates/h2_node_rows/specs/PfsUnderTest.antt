-- PFSs in memory below a super-root.
use Rattle.std.specs.Prelude.{◌≡◌}
use Rattle.h2_inode.specs.declared.inode.Inode.{Inode}
use Rattle.h2_inode.specs.declared.kind.InodeKind.TheVariants.{Pfs}
use Rattle.h2_inode.specs.Nodes.{IsPlantable}

-- the inode of a PFS, which can be planted
pub record IsNewPfs (i : Inode) : Type 0 where
  pub kind : i.kind ≡ Pfs
  pub plantable : IsPlantable i
