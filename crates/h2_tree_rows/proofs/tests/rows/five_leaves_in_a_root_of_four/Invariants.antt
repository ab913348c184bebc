use Rattle.h2_tree_rows.specs.TreeUnderTest.{IsTree}
use Rattle.h2_tree_rows.proofs.tests.rows.five_leaves_in_a_root_of_four.Given as goal

abbrev pub invariant-loop-key : goal.invariant-loop-key
invariant-loop-key g l = IsTree l.tree.sets l.tree.root.0 l.tree.keys l.tree.leaf_bits
