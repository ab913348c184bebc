use Rattle.h2_tree_rows.specs.TreeUnderTest.{IsTree}
use Rattle.h2_tree_rows.proofs.tests.troubles.a_split_needs_a_spare_node.Given as goal

abbrev pub invariant-loop-key : goal.invariant-loop-key
invariant-loop-key g l = IsTree l.tree.sets l.tree.root.0 l.tree.keys l.tree.leaf_bits

abbrev pub invariant-loop-call : goal.invariant-loop-call
invariant-loop-call g l = IsTree l.tree.sets l.tree.root.0 l.tree.keys l.tree.leaf_bits
