use Rattle.h2_tree_rows.proofs.Rooted.{unloaded}
use Rattle.h2_tree_rows.proofs.tests.under_test.Tree.unload.Goals as goal

pub returns : goal.returns
returns c = unloaded _ _ c.args.self.now.root.0 c.args.from _ _ c.unload.ensures.unloads c.requires
