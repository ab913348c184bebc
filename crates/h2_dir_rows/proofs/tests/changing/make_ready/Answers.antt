use Rattle.h2_node_rows.specs.SuperRootLaws.{readied}
use Rattle.h2_dir_rows.proofs.tests.changing.make_ready.Goals as goal

pub returns-in-Ok : goal.returns-in-Ok
returns-in-Ok c = readied _ _ _ c.requires c.ready.ensures.same

pub returns-in-Err : goal.returns-in-Err
returns-in-Err c = readied _ _ _ c.requires c.ready.ensures.same
