use Rattle.std.proofs.Common.{◌≡◌, drop}
use Rattle.h2_pfs.specs.Mets.{id_in}
use Rattle.h2_pfs.proofs.met.id_in.Given as goal

abbrev pub invariant-loop-pfs : goal.invariant-loop-pfs
invariant-loop-pfs l = id_in l.name (drop l.pfs-index l.pfss) ≡ id_in l.name l.pfss
