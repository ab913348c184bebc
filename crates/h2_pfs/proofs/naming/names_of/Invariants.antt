use Rattle.std.proofs.Common.{◌≡◌, take}
use Rattle.std.specs.Prelude.{map}
use Rattle.h2_pfs.specs.Mets.{met_name}
use Rattle.h2_pfs.proofs.naming.names_of.Given as goal

abbrev pub invariant-loop-pfs : goal.invariant-loop-pfs
invariant-loop-pfs l = l.names ≡ map met_name (take l.pfs-index l.pfss)
