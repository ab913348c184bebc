use Rattle.h2_memory_sets.specs.Seen.{forest_of}
use Rattle.h2_node_rows.specs.VolumeUnderTest.{IsTop}
use Rattle.h2_file_rows.proofs.tests.orders.fill_and_cut.Given as goal

abbrev pub invariant-loop-step : goal.invariant-loop-step
invariant-loop-step g l = IsTop (forest_of l.files.nodes) l.files.root.0

abbrev pub invariant-loop-cut : goal.invariant-loop-cut
invariant-loop-cut g l = IsTop (forest_of l.files.nodes) l.files.root.0
