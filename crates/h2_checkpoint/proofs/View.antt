-- How checkpoints are read: the newest completed one in the image, the frozen one with its queue laid over the image.
use Rattle.std.proofs.Common.{◌∙◌, inl}
use Rattle.h2_num.specs.Places.{Places}
use Rattle.h2_disk.specs.Trace.{Trace}
use Rattle.h2_checkpoint.specs.Format.{Format, IsLawful, SameReached}
use Rattle.h2_checkpoint.specs.Queue.{overlay_all}
use Rattle.h2_checkpoint.specs.Checkpoint.{Checkpoint, Completed, Frozen, IsFlushing, IsGuardedCheckpoint, Newest, Progress, Stage}
use Rattle.h2_checkpoint.specs.Runs.{Flush, Idle, IsKept, UnderWay}
use Rattle.h2_checkpoint.specs.OverlayLaws.{overlay_stands}

module _ (v : Format) (laws : IsLawful v) where
  -- the newest completed checkpoint is read as it was frozen
  newest_guarded : (t : Trace) (i : Places) (c : Checkpoint v) → IsGuardedCheckpoint v t i c → SameReached v c.view (v.roots c.header) i
  newest_guarded t i c guards k o = guards.seen k (inl o) ∙ guards.blocks k o

  pub newest_now : (t : Trace) (i : Places) (c : Checkpoint v) (flush : Flush v) → IsKept v t i (Completed c) flush → SameReached v c.view (v.roots c.header) i
  newest_now t i c Idle kept = newest_guarded t i c kept.guards
  newest_now t i c (UnderWay f g s) kept = newest_guarded t i c kept.guards

  -- while a flush is under way, the frozen checkpoint is read through its queue as it was frozen
  pub view_now : (t : Trace) (i : Places) (d : Newest v) (f : Frozen v) (g : Progress) (s : Stage) → IsFlushing v t i d f g s → SameReached v f.checkpoint.view (v.roots f.checkpoint.header) (overlay_all f.queue i)
  view_now t i d f g s x k o = overlay_stands f.queue i f.checkpoint.view k x.plan.queue (x.others k o)
