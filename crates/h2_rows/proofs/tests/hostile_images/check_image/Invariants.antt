-- Bytes are put into the disk at moment 0 alone.
use Rattle.std.proofs.Common.{◌≡◌}
use Rattle.h2_disk.specs.Mem.{mem_moment}
use Rattle.h2_rows.proofs.tests.hostile_images.check_image.Given as goal

abbrev pub invariant-loop-slot : goal.invariant-loop-slot
invariant-loop-slot g l = mem_moment l.disk ≡ 0
