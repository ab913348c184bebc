use Rattle.h2_memory_sets.specs.Seen.{forest_of}
use Rattle.h2_node_rows.specs.VolumeUnderTest.{IsTop}
use Rattle.h2_dir_rows.proofs.tests.rows.an_entry_is_added_found_listed_walked_to_and_removed.Given as goal

abbrev pub invariant-loop-bytes : goal.invariant-loop-bytes
invariant-loop-bytes g l = IsTop (forest_of l.dir.nodes) l.dir.root.0
