use Rattle.h2_inode.specs.VisitLaws.{walks_visit}
use Rattle.h2_node_rows.specs.SuperRootLaws.{visited}
use Rattle.h2_dir_rows.proofs.Topped.{leaf_is}
use Rattle.h2_dir_rows.proofs.tests.opening.leaf_in.Goals as goal

pub returns-in_err-found-clause-top : goal.returns-in_err-found-clause-top
returns-in_err-found-clause-top c = visited _ _ _ c.requires.top (walks_visit _ _ c.lookup.ensures.walks)

pub returns-in_err-leaf-clause-top : goal.returns-in_err-leaf-clause-top
returns-in_err-leaf-clause-top c = visited _ _ _ c.requires.top (walks_visit _ _ c.lookup.ensures.walks)

pub returns-clause-top : goal.returns-clause-top
returns-clause-top c = visited _ _ _ c.requires.top (walks_visit _ _ c.lookup.ensures.walks)

pub returns-clause-leaf : goal.returns-clause-leaf
returns-clause-leaf c =
    let one = c.in_ok-leaf.ensures in
    leaf_is _ _ _ _ _ c.requires.tree c.lookup.ensures.walks c.in_ok-found.ensures.path one.found one.kind one.key
