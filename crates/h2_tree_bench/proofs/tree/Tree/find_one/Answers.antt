use Rattle.h2_tree_bench.proofs.EntryTrees.{walked}
use Rattle.h2_tree_bench.proofs.tree.Tree.find_one.Goals as goal

pub returns : goal.returns
returns c = walked _ _ c.args.self.now.root.0 c.lookup.ensures.walks c.requires
