use Rattle.h2_node_rows.proofs.PfssTopped.{added_or_not}
use Rattle.h2_node_rows.proofs.tests.pfss.Pfss.found.Goals as goal

pub returns : goal.returns
returns c = added_or_not _ _ _ _ _ _ _ _ c.pfs_add.result c.requires.top c.pfs_add.ensures.adds c.pfs_add.ensures.visits
