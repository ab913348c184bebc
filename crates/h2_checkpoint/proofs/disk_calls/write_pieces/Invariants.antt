use Rattle.std.proofs.Common.{◌≡◌, ℕ, ◌+◌, ◌≤◌, List, drop}
use Rattle.std.specs.Prelude.{IsTrue}
use Rattle.h2_num.specs.Places.{Same}
use Rattle.h2_disk.specs.Trace.{Trace}
use Rattle.h2_checkpoint.specs.Format.{IsLawful}
use Rattle.h2_checkpoint.specs.Queue.{InEntries, overlay_all}
use Rattle.h2_checkpoint.specs.Checkpoint.{Newest, Frozen, Progress, Writing}
use Rattle.h2_checkpoint.specs.Marks.{Mark}
use Rattle.h2_checkpoint.specs.Runs.{UnderWay}
use Rattle.h2_checkpoint.specs.Stands.{StandsAt, disk_state}
use Rattle.h2_checkpoint.specs.Steps.{queue_of}
use Rattle.h2_checkpoint.proofs.disk_calls.write_pieces.Given as goal

abbrev pub invariant-loop-piece : goal.invariant-loop-piece
invariant-loop-piece g l = record {
  time : g.D.Disk.moment l.disk ≡ g.D.Disk.moment l.fn.disk + l.piece-index;
  later : g.D.Disk.faults l.fn.disk ≤ g.D.Disk.faults l.disk;
  wants : g.D.Disk.wants l.disk ≡ g.D.Disk.wants l.fn.disk;
  image : IsTrue g.D.Disk.tells → Same (overlay_all (queue_of l.fn.pieces) (g.D.Disk.image l.fn.disk)) (overlay_all (queue_of (drop l.piece-index l.pieces)) (g.D.Disk.image l.disk));
  elsewhere : IsTrue g.D.Disk.tells → (k : ℕ) → (InEntries (queue_of l.fn.pieces) k → ⊥) → g.D.Disk.image l.disk k ≡ g.D.Disk.image l.fn.disk k;
  stands : IsTrue g.D.Disk.tells → IsLawful g.V.VolumeFormat.format → (start : ℕ) (opening newest : Newest g.V.VolumeFormat.format) (before : Trace) (f : Frozen g.V.VolumeFormat.format) (p : Progress) (marks : List (Mark g.V.VolumeFormat.format.Forest))
      → StandsAt g.V.VolumeFormat.format start opening before (disk_state g.D.Disk.image g.D.Disk.moment g.D.Disk.trace l.fn.disk) newest (UnderWay f p (Writing (queue_of l.fn.pieces))) marks
      → StandsAt g.V.VolumeFormat.format start opening before (disk_state g.D.Disk.image g.D.Disk.moment g.D.Disk.trace l.disk) newest (UnderWay f p (Writing (queue_of (drop l.piece-index l.pieces)))) marks;
}
