use Rattle.h2_inode.specs.VisitLaws.{walks_visit}
use Rattle.h2_node_rows.specs.SuperRootLaws.{visited}
use Rattle.h2_dir_rows.proofs.Topped.{still_opened, taken}
use Rattle.h2_dir_rows.proofs.tests.changing.remove_in.Goals as goal

pub returns-in_err-key : goal.returns-in_err-key
returns-in_err-key c = visited _ _ _ c.in_ok-dir.ensures.top (walks_visit _ _ c.find.ensures.walks)

pub returns-then-room-lt62 : goal.returns-then-room-lt62
returns-then-room-lt62 c = visited _ _ _ c.in_ok-dir.ensures.top (walks_visit _ _ c.find.ensures.walks)

pub remove_at-taken-requires-clause-directory : goal.remove_at-taken-requires-clause-directory
remove_at-taken-requires-clause-directory c =
    let is = still_opened _ _ _ _ _ _ c.find.ensures.walks c.find.ensures.beside c.in_ok-dir.ensures.opened in
    record { inode = is.inode; has = is.has; kind = is.kind }

pub returns : goal.returns
returns c =
    let top = visited _ _ _ c.in_ok-dir.ensures.top (walks_visit _ _ c.find.ensures.walks) in
    let is = still_opened _ _ _ _ _ _ c.find.ensures.walks c.find.ensures.beside c.in_ok-dir.ensures.opened in
    let found = c.in_ok-key.ensures.found in
    taken _ _ _ _ found.leaf top is.has.root is.apart (c.remove_at-taken.ensures.takes found.leaf found.path)
