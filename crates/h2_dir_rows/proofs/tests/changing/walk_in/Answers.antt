use Rattle.h2_node_rows.specs.SuperRootLaws.{visited}
use Rattle.h2_dir_rows.proofs.tests.changing.walk_in.Goals as goal

pub returns : goal.returns
returns c = visited _ _ _ c.in_ok-pfs.ensures.top c.walk.ensures.visits
