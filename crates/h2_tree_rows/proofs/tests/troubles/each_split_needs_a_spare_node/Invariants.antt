use Rattle.h2_tree_rows.specs.TreeUnderTest.{IsTree}
use Rattle.h2_tree_rows.proofs.tests.troubles.each_split_needs_a_spare_node.Given as goal

abbrev pub invariant-loop-i : goal.invariant-loop-i
invariant-loop-i g l = IsTree l.tree.sets l.tree.root.0 l.tree.keys l.tree.leaf_bits
