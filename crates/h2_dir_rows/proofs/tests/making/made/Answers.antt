use Rattle.h2_dir_rows.proofs.Topped.{takes_top, takes_pfs}
use Rattle.h2_dir_rows.proofs.tests.making.made.Goals as goal

pub add_inode-requires-clause-takes : goal.add_inode-requires-clause-takes
add_inode-requires-clause-takes c = takes_top _ _ _ c.in_ok-nodes.ensures c.in-Some.ensures

pub add_inode-requires-2-clause-takes : goal.add_inode-requires-2-clause-takes
add_inode-requires-2-clause-takes c = takes_pfs _ _ _ _ _ c.in_ok-pfs.ensures.inode c.in-Some-new_pfs.ensures c.in-Some-leaf_at.ensures
