use Rattle.std.proofs.Common.{sym, ◌∙◌}
use Rattle.h2_inode.specs.VisitLaws.{unchanged_visits, seeks_visit}
use Rattle.h2_node_rows.specs.SuperRootLaws.{visited}
use Rattle.h2_dir_rows.proofs.Topped.{named_apart}
use Rattle.h2_dir_rows.proofs.tests.opening.open_directory.Goals as goal

pub returns-in_err-at-clause-top : goal.returns-in_err-at-clause-top
returns-in_err-at-clause-top c = visited _ _ _ c.in_ok-leaf.ensures.top (unchanged_visits _ _ c.in_err-at.ensures.same)

pub returns-in_err-dir-clause-top : goal.returns-in_err-dir-clause-top
returns-in_err-dir-clause-top c = visited _ _ _ c.in_ok-leaf.ensures.top (seeks_visit _ _ _ _ _ c.in_ok-at.ensures.ok)

pub returns-clause-top : goal.returns-clause-top
returns-clause-top c = visited _ _ _ c.in_ok-leaf.ensures.top (seeks_visit _ _ _ _ _ c.in_ok-at.ensures.ok)

pub returns-clause-opened : goal.returns-clause-opened
returns-clause-opened c =
    let seeks = c.in_ok-at.ensures.ok in
    let top = visited _ _ _ c.in_ok-leaf.ensures.top (seeks_visit _ _ _ _ _ seeks) in
    let is = c.in_ok-dir.ensures.directory in
    record { inode = is.inode; has = is.has; kind = is.kind; apart = λ e. named_apart _ _ _ _ _ top seeks.named (sym c.in_ok-dir.ensures.same ∙ e) }
