use Rattle.std.proofs.Common.{◌≡◌, take}
use Rattle.std.specs.Prelude.{map}
use Rattle.h2_forest.specs.Forest.{trimmed}
use Rattle.h2_forest.specs.declared.pfs.Pfs.{Pfs}
use Rattle.h2_forest.proofs.pfs_list.trim_pfss.Given as goal

abbrev pub invariant-loop-pfs : goal.invariant-loop-pfs
invariant-loop-pfs l = l.copies.items ≡ map {A = Pfs} {B = Pfs} (trimmed l.handles) (take l.pfs-index l.list)
