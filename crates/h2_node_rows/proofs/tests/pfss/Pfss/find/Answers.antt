use Rattle.h2_node_rows.specs.SuperRootLaws.{visited}
use Rattle.h2_node_rows.proofs.tests.pfss.Pfss.find.Goals as goal

pub returns : goal.returns
returns c = visited _ _ _ c.requires c.pfs_find.ensures.visits
