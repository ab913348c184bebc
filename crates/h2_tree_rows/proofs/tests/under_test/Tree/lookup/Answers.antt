use Rattle.h2_tree_rows.proofs.Rooted.{walked}
use Rattle.h2_tree_rows.proofs.tests.under_test.Tree.lookup.Goals as goal

pub returns : goal.returns
returns c = walked _ _ c.args.self.now.root.0 _ _ c.lookup.ensures.walks c.requires
