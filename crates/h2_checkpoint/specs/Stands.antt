-- Where a volume stands on its disk, and what a power cut leaves of it.
use Rattle.std.specs.Prelude.{◌≡◌, ◌≤◌, ℕ, List, [], ◌∷◌, length}
use Rattle.h2_num.specs.Places.{Places}
use Rattle.h2_disk.specs.Trace.{Trace, Opened, Call, after, latest, up_to, LeftAt, KeepsDurable, IsDurable, Tried}
use Rattle.h2_disk.specs.Disk.{Keeps}
use Rattle.h2_checkpoint.specs.Format.{Format, SameReached, IsLawful}
use Rattle.h2_checkpoint.specs.Queue.{overlay_all}
use Rattle.h2_checkpoint.specs.Checkpoint.{Progress, Fresh, Stage, Writing, Checkpoint, Newest, Completed, Frozen, IsPlanned, IsQueuedOrThere, base_of, HasOldHeaders}
use Rattle.h2_checkpoint.specs.Marks.{Mark, Froze}
use Rattle.h2_checkpoint.specs.Runs.{Flush, Idle, UnderWay, IsOff, IsOpening, State, Mounts, Survives}

-- what a disk tells of itself at one time
pub record DiskState : Type 0 where
  pub image : Places
  pub moment : ℕ
  pub trace : Trace

-- a disk by its trait's members
abbrev pub disk_state : {D : Type 0} → (D → Places) → (D → ℕ) → (D → Trace) → D → DiskState
disk_state image moment trace disk = record { image = image disk; moment = moment disk; trace = trace disk }

module _ (v : Format) where
  -- the volume's state after these calls since its opening
  abbrev pub state_since : Newest v → List Call → Places → ℕ → Newest v → Flush v → List (Mark v.Forest) → State v
  state_since opening since image moment newest flush marks = record { trace = after since (Opened (base_of v opening)); image = image; moment = moment; newest = newest; flush = flush; marks = marks }

  -- A volume was opened at a moment on a disk with a trace. Since then the disk made calls, and a cut at each moment leaves what may be landed on; this is where the volume stands.
  pub record StandsAt (start : ℕ) (opening : Newest v) (before : Trace) (disk : DiskState) (newest : Newest v) (flush : Flush v) (marks : List (Mark v.Forest)) : Type 0 where
    pub since : List Call
    pub trace_is : disk.trace ≡ after since before
    pub survives : Survives v start opening (state_since opening since disk.image disk.moment newest flush marks)

  -- a volume that is opened on a disk stands there, and no flush is under way
  abbrev pub StandsOpened : Type 0
  StandsOpened = IsLawful v → (opening : Newest v) (x : DiskState) → IsOpening v opening x.image → StandsAt x.moment opening x.trace x opening Idle []

  -- it does so after a call that changes nothing: a read, well or not, or a sync that fails
  abbrev pub StandsAfterRead : Type 0
  StandsAfterRead = IsLawful v → (start : ℕ) (opening : Newest v) (before : Trace) (old new : DiskState) (newest : Newest v) (flush : Flush v) (marks : List (Mark v.Forest))
      → old.moment ≤ new.moment → Keeps old.image new.image old.trace new.trace
      → StandsAt start opening before old newest flush marks → StandsAt start opening before new newest flush marks

  -- and after a write, well or not, off the slots, the newest completed checkpoint and what a flush under way has frozen or queued
  abbrev pub StandsAfterWrite : Type 0
  StandsAfterWrite = IsLawful v → (start : ℕ) (opening : Newest v) (before : Trace) (old new : DiskState) (newest : Newest v) (flush : Flush v) (marks : List (Mark v.Forest)) (at : ℕ) (bytes : List ℕ)
      → old.moment ≤ new.moment → IsOff v newest flush at (length bytes) → Tried new.moment at bytes old.trace old.image new.trace new.image
      → StandsAt start opening before old newest flush marks → StandsAt start opening before new newest flush marks

  -- and where no flush is under way, a planned checkpoint may be frozen, which is noted, and its flush begins at the start of its queue
  abbrev pub StandsFrozen : Type 0
  StandsFrozen = IsLawful v → (start : ℕ) (opening : Newest v) (before : Trace) (x : DiskState) (newest : Newest v) (f : Frozen v) (marks : List (Mark v.Forest))
      → IsPlanned v newest f → IsQueuedOrThere v x.image f
      → StandsAt start opening before x newest Idle marks
      → StandsAt start opening before x newest (UnderWay f Fresh (Writing f.queue)) (Froze (v.number f.checkpoint.header) f.checkpoint.forest ∷ marks)

  -- where a volume stands, a read of a block of its newest completed checkpoint gives what was frozen
  abbrev pub StandsNewest : Type 0
  StandsNewest = IsLawful v → (start : ℕ) (opening : Newest v) (before : Trace) (x : DiskState) (checkpoint : Checkpoint v) (flush : Flush v) (marks : List (Mark v.Forest))
      → StandsAt start opening before x (Completed checkpoint) flush marks → SameReached v checkpoint.view (v.roots checkpoint.header) x.image

  -- and a read of a block of the checkpoint that a flush under way has frozen does so, once its queue is laid over the image
  abbrev pub StandsQueued : Type 0
  StandsQueued = IsLawful v → (start : ℕ) (opening : Newest v) (before : Trace) (x : DiskState) (newest : Newest v) (f : Frozen v) (g : Progress) (stage : Stage) (marks : List (Mark v.Forest))
      → StandsAt start opening before x newest (UnderWay f g stage) marks → SameReached v f.checkpoint.view (v.roots f.checkpoint.header) (overlay_all f.queue x.image)

  -- A cut at a moment may leave the image of a disk with this trace, where the volume was opened on an image and the disk made calls since: headers are torn into no others, and durable bytes that are written again stay.
  pub record MayBeCut (opened : Places) (since : List Call) (trace : Trace) (m : ℕ) (image : Places) : Type 0 where
    pub left : LeftAt trace m image
    pub headers : HasOldHeaders v (up_to m (after since (Opened opened))) image
    pub kept : KeepsDurable (up_to m (after since (Opened opened))) image

  -- at each moment from the start to the disk's a cut leaves what mounts a checkpoint that may be landed on
  pub record CutsMount (start : ℕ) (opening : Newest v) (before : Trace) (disk : DiskState) (marks : List (Mark v.Forest)) : Type 0 where
    pub since : List Call
    pub trace_is : disk.trace ≡ after since before
    pub each : (m : ℕ) (image : Places) → start ≤ m → m ≤ disk.moment → MayBeCut (base_of v opening) since disk.trace m image → Mounts v opening marks m image

  -- The law of cuts: of a disk that was durable at the opening, a cut at any moment since leaves what mounts a checkpoint that may be landed on.
  abbrev pub CutLaw : Type 0
  CutLaw = IsLawful v → (start : ℕ) (opening : Newest v) (before : Trace) (disk : DiskState) (newest : Newest v) (flush : Flush v) (marks : List (Mark v.Forest))
      → IsDurable before (base_of v opening) → latest before ≤ start → StandsAt start opening before disk newest flush marks → CutsMount start opening before disk marks
