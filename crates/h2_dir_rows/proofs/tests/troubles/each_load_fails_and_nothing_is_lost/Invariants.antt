use Rattle.h2_memory_sets.specs.Seen.{forest_of}
use Rattle.h2_node_rows.specs.VolumeUnderTest.{IsTop}
use Rattle.h2_dir_rows.proofs.tests.troubles.each_load_fails_and_nothing_is_lost.Given as goal

abbrev pub invariant-loop-place : goal.invariant-loop-place
invariant-loop-place g l = IsTop (forest_of l.dir.nodes) l.dir.root.0

abbrev pub invariant-loop-call : goal.invariant-loop-call
invariant-loop-call g l = IsTop (forest_of l.dir.nodes) l.dir.root.0
