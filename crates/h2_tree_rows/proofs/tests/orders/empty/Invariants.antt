use Rattle.h2_tree_rows.specs.TreeUnderTest.{IsTree}
use Rattle.h2_tree_rows.proofs.tests.orders.empty.Given as goal

abbrev pub invariant-loop-step : goal.invariant-loop-step
invariant-loop-step g l = IsTree l.tree.sets l.tree.root.0 l.tree.keys l.tree.leaf_bits
