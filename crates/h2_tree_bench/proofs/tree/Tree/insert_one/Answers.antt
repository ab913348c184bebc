use Rattle.h2_tree_bench.proofs.EntryTrees.{inserted}
use Rattle.h2_tree_bench.proofs.tree.Tree.insert_one.Goals as goal

pub returns : goal.returns
returns c = inserted _ _ c.args.self.now.root.0 c.args.leaf c.insert.result c.insert.ensures.ok c.insert.ensures.walks c.requires.tree
