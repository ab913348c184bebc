use Rattle.h2_node_rows.proofs.Kept.{still}
use Rattle.h2_node_rows.proofs.tests.under_test.Volume.unload.Goals as goal

pub returns : goal.returns
returns c =
    let un = c.unload_inodes.ensures.unloads in
    let fixed = un.fixed in
    still _ _ _ _ c.requires un.sound un.stays fixed.held
