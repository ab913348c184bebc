-- What the fields of an inode may hold, by its kind.
use Rattle.std.specs.Prelude.{◌-◌, ◌^◌}
use Rattle.h2_inode.specs.declared.kind.InodeKind.{InodeKind}
use Rattle.h2_inode.specs.declared.kind.InodeKind.TheVariants.{Directory, File, Pfs}
use Rattle.h2_ref.specs.declared.table.Span.{Span}
use Rattle.h2_ref.specs.Table.{span}
use Rattle.h2_inode.specs.declared.limits.Limits.{Limits}

-- links, size, and next inode number of each kind
abbrev pub limits_of : InodeKind → Limits
limits_of Directory = record { links = span 1 1; sizes = span 0 4096; nexts = span 0 0 }
limits_of File = record { links = span 0 65535; sizes = span 0 (2 ^ 40); nexts = span 0 0 }
limits_of Pfs = record { links = span 1 1; sizes = span 0 0; nexts = span 2 (2 ^ 62) }

-- the numbers of inodes and of PFSs
abbrev pub numbers : Span
numbers = span 1 (2 ^ 62 - 1)
