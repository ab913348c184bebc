-- The buffers keep their length.
use Rattle.std.proofs.Common.{◌≡◌}
use Rattle.std.specs.Prelude.{vec_len}
use Rattle.h2_rows.proofs.tests.files.a_file_holds_what_a_disk_in_memory_does.Given as goal

abbrev pub invariant-loop-k : goal.invariant-loop-k
invariant-loop-k g l = (vec_len l.found ≡ 65536) × (vec_len l.want ≡ 65536)
