use Rattle.h2_inode.specs.VisitLaws.{walks_visit}
use Rattle.h2_node_rows.specs.SuperRootLaws.{visited}
use Rattle.h2_node_rows.proofs.tests.pfss.Pfss.is_free.Goals as goal

pub returns-in_err-lookup-clause-top : goal.returns-in_err-lookup-clause-top
returns-in_err-lookup-clause-top c = visited _ _ _ c.requires (walks_visit _ _ c.lookup.ensures.walks)

pub returns-in-Some-clause-top : goal.returns-in-Some-clause-top
returns-in-Some-clause-top c = visited _ _ _ c.requires (walks_visit _ _ c.lookup.ensures.walks)

pub returns-in-None-clause-top : goal.returns-in-None-clause-top
returns-in-None-clause-top c = visited _ _ _ c.requires (walks_visit _ _ c.lookup.ensures.walks)
