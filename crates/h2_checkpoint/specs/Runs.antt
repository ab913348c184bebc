-- A volume from its opening on: writes beside a flush, the steps of the flush, and what a cut at each moment leaves.
use Rattle.std.specs.Prelude.{◌≡◌, ◌⊎◌, ◌≤◌, ℕ, List, [], ◌∷◌, length}
use Rattle.h2_num.specs.Places.{Places, InRange, SameOutside, Same, Holds}
use Rattle.h2_disk.specs.Trace.{Trace, Opened, Wrote, Synced, up_to, LeftAt, KeepsDurable, Tried}
use Rattle.h2_geom.specs.Places.{header_place}
use Rattle.h2_checkpoint.specs.Slots.{IsSlot, InSlot}
use Rattle.h2_checkpoint.specs.Format.{Format, IsLawful, IsNewest, HasNoHeader}
use Rattle.h2_checkpoint.specs.Queue.{Entry, InEntries}
use Rattle.h2_checkpoint.specs.Checkpoint.{Progress, Fresh, Sent, progress_after_sync, Stage, Writing, Blocks_synced, Header_written, OwnsByte, slot_of_checkpoint, Frozen, IsCheckpoint, Newest, Blank, Completed, base_of, number_of, NewestOwnsByte, IsAtRest, IsPlanned, IsQueuedOrThere, IsFlushing, HasOldHeaders}
use Rattle.h2_checkpoint.specs.Marks.{Mark, Froze, Header_out, Header_done, newest_at, IsOutBy, IsLanding, IsFrozenForest}

module _ (v : Format) where
  -- the flush under way, how far it has come, and what it does next
  pub data Flush : Type 0 where
    Idle : Flush
    UnderWay : Frozen v → Progress → Stage → Flush

  -- a volume between two calls of its disk
  pub record State : Type 0 where
    -- since the opening
    pub trace : Trace
    pub image : Places
    pub moment : ℕ
    pub newest : Newest v
    pub flush : Flush
    pub marks : List (Mark v.Forest)

  -- the byte isn't one that a flush under way has frozen or queued
  abbrev pub IsOffFlush : Flush → ℕ → Type 0
  IsOffFlush Idle k = Unit {0}
  IsOffFlush (UnderWay f g s) k = (OwnsByte v f.checkpoint k → ⊥) × (InEntries f.queue k → ⊥)

  -- the range shares no byte with a slot, with the newest completed checkpoint, or with what a flush under way has frozen or queued
  pub record IsOff (newest : Newest v) (flush : Flush) (at n : ℕ) : Type 0 where
    pub slots : (s k : ℕ) → IsSlot s → InRange at n k → InSlot s k → ⊥
    pub newest_off : (k : ℕ) → InRange at n k → NewestOwnsByte v newest k → ⊥
    pub frozen : (k : ℕ) → InRange at n k → IsOffFlush flush k

  -- one call of the disk, or a freeze
  pub data Does (x : State) : State → Type 0 where
    -- a read, or a sync that isn't of a flush and fails: nothing but the moment
    reads : (t : ℕ) (j : Places) → x.moment ≤ t → Same x.image j → Does x (record x { image = j; moment = t })
    -- a command's write, well or not
    put : (t at : ℕ) (bytes : List ℕ) (q : Trace) (j : Places) → x.moment ≤ t → Tried t at bytes x.trace x.image q j → IsOff x.newest x.flush at (length bytes)
        → Does x (record x { trace = q; image = j; moment = t })
    -- a checkpoint is frozen, and its flush begins
    freeze : (f : Frozen v) → x.flush ≡ Idle → IsPlanned v x.newest f
        → IsQueuedOrThere v x.image f
        → Does x (record x { flush = UnderWay f Fresh (Writing f.queue); marks = Froze (v.number f.checkpoint.header) f.checkpoint.forest ∷ x.marks })
    entry_written : (f : Frozen v) (g : Progress) (e : Entry) (later : List Entry) (t : ℕ) (j : Places) → x.flush ≡ UnderWay f g (Writing (e ∷ later))
        → x.moment ≤ t → SameOutside e.at (length e.bytes) x.image j → Holds e.at e.bytes j
        → Does x (record x { trace = Wrote t e.at e.bytes x.trace; image = j; moment = t; flush = UnderWay f g (Writing later) })
    -- the queue starts anew
    entry_failed : (f : Frozen v) (g : Progress) (e : Entry) (later : List Entry) (t : ℕ) (q : Trace) (j : Places) → x.flush ≡ UnderWay f g (Writing (e ∷ later))
        → x.moment ≤ t → Tried t e.at e.bytes x.trace x.image q j
        → Does x (record x { trace = q; image = j; moment = t; flush = UnderWay f g (Writing f.queue) })
    blocks_synced : (f : Frozen v) (g : Progress) (t : ℕ) (j : Places) → x.flush ≡ UnderWay f g (Writing [])
        → x.moment ≤ t → Same x.image j
        → Does x (record x { trace = Synced t j x.trace; image = j; moment = t; flush = UnderWay f (progress_after_sync g) Blocks_synced })
    -- the sync of the blocks or of the header, or a write that didn't begin
    sync_failed : (f : Frozen v) (g : Progress) (s : Stage) (t : ℕ) (j : Places) → x.flush ≡ UnderWay f g s
        → x.moment ≤ t → Same x.image j
        → Does x (record x { image = j; moment = t; flush = UnderWay f g (Writing f.queue) })
    header_written : (f : Frozen v) (g : Progress) (t : ℕ) (j : Places) → x.flush ≡ UnderWay f g Blocks_synced
        → x.moment ≤ t → SameOutside (header_place (slot_of_checkpoint v f.checkpoint)) (length f.bytes) x.image j → Holds (header_place (slot_of_checkpoint v f.checkpoint)) f.bytes j
        → Does x (record x { trace = Wrote t (header_place (slot_of_checkpoint v f.checkpoint)) f.bytes x.trace; image = j; moment = t; flush = UnderWay f Sent Header_written; marks = Header_out (v.number f.checkpoint.header) t ∷ x.marks })
    header_failed : (f : Frozen v) (g : Progress) (t : ℕ) (q : Trace) (j : Places) → x.flush ≡ UnderWay f g Blocks_synced
        → x.moment ≤ t → Tried t (header_place (slot_of_checkpoint v f.checkpoint)) f.bytes x.trace x.image q j
        → Does x (record x { trace = q; image = j; moment = t; flush = UnderWay f Sent (Writing f.queue); marks = Header_out (v.number f.checkpoint.header) t ∷ x.marks })
    -- the checkpoint is completed
    header_done : (f : Frozen v) (g : Progress) (t : ℕ) (j : Places) → x.flush ≡ UnderWay f g Header_written
        → x.moment ≤ t → Same x.image j
        → Does x (record x { trace = Synced t j x.trace; image = j; moment = t; newest = Completed f.checkpoint; flush = Idle; marks = Header_done (v.number f.checkpoint.header) t ∷ x.marks })

  -- steps, one after another
  pub data Run (x : State) : State → Type 0 where
    none : Run x x
    more : (y z : State) → Run x y → Does y z → Run x z

  -- a cut at the moment leaves the image, headers are torn into no others, and durable bytes that are written again stay
  pub record MayBeLeft (trace : Trace) (m : ℕ) (image : Places) : Type 0 where
    pub left : LeftAt trace m image
    pub headers : HasOldHeaders v (up_to m trace) image
    pub durable : KeepsDurable (up_to m trace) image

  -- the forest at the opening
  abbrev pub IsOpeningForest : Newest v → ℕ → v.Forest → Type 0
  IsOpeningForest (Blank image) n forest = ⊥
  IsOpeningForest (Completed checkpoint) n forest = (n ≡ v.number checkpoint.header) × (forest ≡ checkpoint.forest)

  -- mounting the image gives a header that may be landed on, with the forest that was frozen for it
  pub record MountsCheckpoint (opening : Newest v) (marks : List (Mark v.Forest)) (m : ℕ) (image : Places) : Type 0 where
    pub header : v.Header
    pub forest : v.Forest
    pub newest : IsNewest v image header
    pub stands : v.Stands image header forest
    pub landing : IsLanding (number_of v opening) marks m (v.number header)
    pub frozen : IsFrozenForest (IsOpeningForest opening) marks (v.number header) forest

  -- a volume that is being made may have no header yet
  abbrev pub Mounts : Newest v → List (Mark v.Forest) → ℕ → Places → Type 0
  Mounts (Blank first) marks m image = (HasNoHeader v image × IsLanding 0 marks m 0) ⊎ MountsCheckpoint (Blank first) marks m image
  Mounts (Completed checkpoint) marks m image = MountsCheckpoint (Completed checkpoint) marks m image

  -- what is kept while no flush is under way, or one is
  abbrev pub IsKept : Trace → Places → Newest v → Flush → Type 0
  IsKept t image newest Idle = IsAtRest v t image newest
  IsKept t image newest (UnderWay f g s) = IsFlushing v t image newest f g s

  -- the marks tell how far the flush is
  abbrev pub IsMarked : Newest v → List (Mark v.Forest) → ℕ → Flush → Type 0
  IsMarked opening marks moment Idle = Unit {0}
  IsMarked opening marks moment (UnderWay f g s) = IsFrozenForest (IsOpeningForest opening) marks (v.number f.checkpoint.header) f.checkpoint.forest
      × (g ≡ Sent → (m : ℕ) → moment ≤ m → IsOutBy marks (v.number f.checkpoint.header) m)

  -- the forest of the newest completed checkpoint is the one that was frozen for it
  abbrev pub HasFrozenForest : Newest v → List (Mark v.Forest) → Newest v → Type 0
  HasFrozenForest opening marks (Completed checkpoint) = IsFrozenForest (IsOpeningForest opening) marks (v.number checkpoint.header) checkpoint.forest
  HasFrozenForest (Blank first) marks (Blank image) = Unit {0}
  HasFrozenForest (Completed checkpoint) marks (Blank image) = ⊥

  -- what holds between two steps
  pub record Present (opening : Newest v) (x : State) : Type 0 where
    pub kept : IsKept x.trace x.image x.newest x.flush
    pub times : (m : ℕ) → x.moment ≤ m → up_to m x.trace ≡ x.trace
    pub newest : (m : ℕ) → x.moment ≤ m → newest_at (number_of v opening) x.marks m ≡ number_of v x.newest
    pub forest : HasFrozenForest opening x.marks x.newest
    pub marked : IsMarked opening x.marks x.moment x.flush

  -- all that holds of a volume since its opening at a moment
  pub record Survives (start : ℕ) (opening : Newest v) (x : State) : Type 0 where
    pub present : Present opening x
    -- a cut at any moment so far
    pub cuts : (m : ℕ) (image : Places) → start ≤ m → m ≤ x.moment → MayBeLeft x.trace m image → Mounts opening x.marks m image

  -- a volume that was just opened: nothing was written, and a read gives what a cut leaves
  abbrev pub opened : Newest v → Places → ℕ → State
  opened opening image moment = record { trace = Opened (base_of v opening); image = image; moment = moment; newest = opening; flush = Idle; marks = [] }

  -- it is sound, or it has no header
  abbrev pub IsSoundOpening : Newest v → Type 0
  IsSoundOpening (Blank image) = HasNoHeader v image
  IsSoundOpening (Completed checkpoint) = IsCheckpoint v checkpoint × IsNewest v checkpoint.view checkpoint.header

  -- the first state of an opened volume: sound or blank, and a read gives it
  pub record IsOpening (opening : Newest v) (image : Places) : Type 0 where
    pub sound : IsSoundOpening opening
    pub read : Same (base_of v opening) image

  -- The law of crashes: after all steps a cut at any moment so far mounts the newest completed checkpoint, or the one whose header was under way.
  abbrev pub CrashLaw : Type 0
  CrashLaw = IsLawful v → (opening : Newest v) (image : Places) (start : ℕ) (x : State) → IsOpening opening image → Run (opened opening image start) x → Survives start opening x
