-- The numbers of kinds of inodes.
use Rattle.std.specs.Prelude.{ℕ}
use Rattle.h2_inode.specs.declared.kind.InodeKind.{InodeKind}
use Rattle.h2_inode.specs.declared.kind.InodeKind.TheVariants.{Directory, File, Pfs}

-- the number of a kind
abbrev pub kind_byte : InodeKind → ℕ
kind_byte Directory = 1
kind_byte File = 2
kind_byte Pfs = 3
