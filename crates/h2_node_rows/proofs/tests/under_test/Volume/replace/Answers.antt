use Rattle.h2_node_rows.proofs.Kept.{replaced}
use Rattle.h2_node_rows.proofs.tests.under_test.Volume.replace.Goals as goal

pub returns-clause-volume : goal.returns-clause-volume
returns-clause-volume c = replaced _ _ _ c.args.at.0 _ _ _ c.requires.volume c.requires.worked c.directory.ensures c.set_inode.ensures.replaces
