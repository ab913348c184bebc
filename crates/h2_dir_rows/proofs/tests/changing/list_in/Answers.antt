use Rattle.h2_inode.specs.VisitLaws.{walks_visit}
use Rattle.h2_node_rows.specs.SuperRootLaws.{visited}
use Rattle.h2_dir_rows.proofs.tests.changing.list_in.Goals as goal

pub returns : goal.returns
returns c = visited _ _ _ c.in_ok-dir.ensures.top (walks_visit _ _ c.list.ensures.walks)
