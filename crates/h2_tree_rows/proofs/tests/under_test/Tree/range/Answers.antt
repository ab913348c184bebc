use Rattle.h2_tree_rows.proofs.Rooted.{walked}
use Rattle.h2_tree_rows.proofs.tests.under_test.Tree.range.Goals as goal

pub returns : goal.returns
returns c = walked _ _ c.args.self.now.root.0 _ _ c.range.ensures.walks c.requires
