use Rattle.h2_memory_sets.specs.Seen.{forest_of}
use Rattle.h2_node_rows.specs.VolumeUnderTest.{IsTop}
use Rattle.h2_dir_rows.proofs.tests.table.with_names.Given as goal

abbrev pub invariant-loop-row : goal.invariant-loop-row
invariant-loop-row l = IsTop (forest_of l.dir.nodes) l.dir.root.0
