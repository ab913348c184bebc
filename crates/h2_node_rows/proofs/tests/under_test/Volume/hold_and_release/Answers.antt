use Rattle.h2_node_rows.proofs.Kept.{held_once}
use Rattle.h2_node_rows.proofs.tests.under_test.Volume.hold_and_release.Goals as goal

pub returns : goal.returns
returns c = held_once _ _ _ _ _ c.args.at.0 c.requires.volume c.hold.ensures.held c.release.ensures.held
