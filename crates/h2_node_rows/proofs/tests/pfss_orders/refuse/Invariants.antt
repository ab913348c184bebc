use Rattle.h2_memory_sets.specs.Seen.{forest_of}
use Rattle.h2_node_rows.specs.VolumeUnderTest.{IsTop}
use Rattle.h2_node_rows.proofs.tests.pfss_orders.refuse.Given as goal

abbrev pub invariant-loop-case : goal.invariant-loop-case
invariant-loop-case g l = IsTop (forest_of l.pfss.nodes) l.pfss.root.0

abbrev pub invariant-loop-handles : goal.invariant-loop-handles
invariant-loop-handles g l = IsTop (forest_of l.pfss.nodes) l.pfss.root.0

abbrev pub invariant-loop-one_call : goal.invariant-loop-one_call
invariant-loop-one_call g l = IsTop (forest_of l.pfss.nodes) l.pfss.root.0
