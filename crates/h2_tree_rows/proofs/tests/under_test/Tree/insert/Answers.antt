use Rattle.h2_tree_rows.proofs.Rooted.{inserted}
use Rattle.h2_tree_rows.proofs.tests.under_test.Tree.insert.Goals as goal

pub returns : goal.returns
returns c = inserted _ _ c.args.self.now.root.0 _ _ c.args.leaf c.insert.result c.insert.ensures.ok c.insert.ensures.walks c.requires.tree
