use Rattle.h2_tree_rows.specs.TreeUnderTest.{IsTree}
use Rattle.h2_tree_rows.proofs.tests.troubles.loads_of.Given as goal

abbrev pub invariant-loop-n : goal.invariant-loop-n
invariant-loop-n g l = IsTree l.tree.sets l.tree.root.0 l.tree.keys l.tree.leaf_bits
