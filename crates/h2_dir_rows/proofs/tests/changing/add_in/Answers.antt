use Rattle.h2_inode.specs.VisitLaws.{walks_visit}
use Rattle.h2_node_rows.specs.SuperRootLaws.{visited}
use Rattle.h2_dir_rows.proofs.Topped.{still_opened}
use Rattle.h2_dir_rows.proofs.tests.changing.add_in.Goals as goal

pub returns-in_err-key : goal.returns-in_err-key
returns-in_err-key c = visited _ _ _ c.in_ok-dir.ensures.top (walks_visit _ _ c.spot.ensures.walks)

pub put_at-requires-clause-top : goal.put_at-requires-clause-top
put_at-requires-clause-top c = visited _ _ _ c.in_ok-dir.ensures.top (walks_visit _ _ c.spot.ensures.walks)

pub put_at-requires-clause-opened : goal.put_at-requires-clause-opened
put_at-requires-clause-opened c = still_opened _ _ _ _ _ _ c.spot.ensures.walks c.spot.ensures.beside c.in_ok-dir.ensures.opened
