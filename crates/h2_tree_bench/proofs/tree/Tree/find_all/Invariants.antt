use Rattle.h2_memory_sets.specs.Seen.{forest_of}
use Rattle.h2_tree_bench.specs.EntryTree.{IsEntryTree}
use Rattle.h2_tree_bench.proofs.tree.Tree.find_all.Given as goal

abbrev pub invariant-loop-i : goal.invariant-loop-i
invariant-loop-i l = IsEntryTree (forest_of l.self.sets) l.self.root.0
