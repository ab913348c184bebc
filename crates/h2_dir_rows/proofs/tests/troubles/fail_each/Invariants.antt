use Rattle.h2_memory_sets.specs.Seen.{forest_of}
use Rattle.h2_node_rows.specs.VolumeUnderTest.{IsTop}
use Rattle.h2_dir_rows.proofs.tests.troubles.fail_each.Given as goal

abbrev pub invariant-loop-which : goal.invariant-loop-which
invariant-loop-which g l = IsTop (forest_of l.dir.nodes) l.dir.root.0
