use Rattle.h2_memory_sets.specs.Seen.{forest_of}
use Rattle.h2_node_rows.specs.VolumeUnderTest.{IsTop}
use Rattle.h2_file_rows.proofs.tests.both.compare.Given as goal

abbrev pub invariant-loop-r : goal.invariant-loop-r
invariant-loop-r g l = IsTop (forest_of l.files.nodes) l.files.root.0

abbrev pub invariant-loop-block : goal.invariant-loop-block
invariant-loop-block g l = IsTop (forest_of l.files.nodes) l.files.root.0
