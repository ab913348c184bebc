use Rattle.h2_inode.specs.VisitLaws.{unchanged_visits, seeks_visit}
use Rattle.h2_node_rows.specs.SuperRootLaws.{visited}
use Rattle.h2_dir_rows.proofs.tests.opening.open_pfs.Goals as goal

pub returns-in_err-at-clause-top : goal.returns-in_err-at-clause-top
returns-in_err-at-clause-top c = visited _ _ _ c.in_ok-leaf.ensures.top (unchanged_visits _ _ c.in_err-at.ensures.same)

pub returns-in_err-pfs-clause-top : goal.returns-in_err-pfs-clause-top
returns-in_err-pfs-clause-top c = visited _ _ _ c.in_ok-leaf.ensures.top (seeks_visit _ _ _ _ _ c.in_ok-at.ensures.ok)

pub returns-clause-top : goal.returns-clause-top
returns-clause-top c = visited _ _ _ c.in_ok-leaf.ensures.top (seeks_visit _ _ _ _ _ c.in_ok-at.ensures.ok)
