-- What keeps a volume safe against power cuts: its newest completed checkpoint, and the one that a flush has frozen.
use Rattle.std.specs.Prelude.{◌≡◌, ◌≢◌, ◌⊎◌, ◌<◌, ◌≤◌, ℕ, suc, List, [], slice_index, length}
use Rattle.h2_num.specs.Places.{Places, places, Holds}
use Rattle.h2_disk.specs.Trace.{Trace, durable, IsChanged, Appeared}
use Rattle.h2_geom.specs.Places.{header_bytes, header_place, turn_of}
use Rattle.h2_checkpoint.specs.Slots.{IsSlot, slot_bytes, InSlot}
use Rattle.h2_checkpoint.specs.Format.{Format, ReachesByte, SameReached, IsNewest, HasNoHeader}
use Rattle.h2_checkpoint.specs.Queue.{Entry, IsAmong, InEntries}

-- how far a flush has come, over all its tries
pub data Progress : Type 0 where
  -- no sync since its freeze
  Fresh : Progress
  -- its blocks are durable
  Secured : Progress
  -- its header's write has begun
  Sent : Progress

-- after a sync of all blocks
abbrev pub progress_after_sync : Progress → Progress
progress_after_sync Fresh = Secured
progress_after_sync Secured = Secured
progress_after_sync Sent = Sent

-- what the present try of a flush does next
pub data Stage : Type 0 where
  -- writes these entries, and then the sync
  Writing : List Entry → Stage
  -- writes the header
  Blocks_synced : Stage
  -- syncs the header
  Header_written : Stage

-- the entries that are yet to be written in this try
abbrev pub entries_left : Stage → List Entry
entries_left (Writing entries) = entries
entries_left Blocks_synced = []
entries_left Header_written = []

module _ (v : Format) where
  -- a header, the image that was frozen under it, and the forest that it stands for
  pub record Checkpoint : Type 0 where
    pub header : v.Header
    pub view : Places
    pub forest : v.Forest

  -- the byte belongs to the checkpoint's blocks
  abbrev pub OwnsByte : Checkpoint → ℕ → Type 0
  OwnsByte checkpoint k = ReachesByte v checkpoint.view (v.roots checkpoint.header) k

  -- the slot of its header
  abbrev pub slot_of_checkpoint : Checkpoint → ℕ
  slot_of_checkpoint checkpoint = turn_of (v.number checkpoint.header)

  -- a checkpoint that a flush is to complete, its header's bytes, and what is written before them
  pub record Frozen : Type 0 where
    pub checkpoint : Checkpoint
    pub bytes : List ℕ
    pub queue : List Entry

  -- its forest stands in its view, off the slots
  pub record IsCheckpoint (checkpoint : Checkpoint) : Type 0 where
    pub stands : v.Stands checkpoint.view checkpoint.header checkpoint.forest
    pub off_slots : (s k : ℕ) → IsSlot s → OwnsByte checkpoint k → InSlot s k → ⊥

  -- the newest completed checkpoint; a volume that is being made has none yet, and no header
  pub data Newest : Type 0 where
    Blank : (image : Places) → Newest
    Completed : Checkpoint → Newest

  -- the image at the opening, where this was the newest completed checkpoint
  abbrev pub base_of : Newest → Places
  base_of (Blank image) = image
  base_of (Completed checkpoint) = checkpoint.view

  -- the number of its header, or 0
  abbrev pub number_of : Newest → ℕ
  number_of (Blank image) = 0
  number_of (Completed checkpoint) = v.number checkpoint.header

  -- the byte belongs to its blocks
  abbrev pub NewestOwnsByte : Newest → ℕ → Type 0
  NewestOwnsByte (Blank image) k = ⊥
  NewestOwnsByte (Completed checkpoint) k = OwnsByte checkpoint k

  -- the header is durable in its slot, the blocks are durable, and no write since the last sync changed any of them
  pub record IsGuardedCheckpoint (t : Trace) (image : Places) (c : Checkpoint) : Type 0 where
    pub checkpoint : IsCheckpoint c
    pub header : v.HeaderAt (slot_of_checkpoint c) (slot_bytes (durable t) (slot_of_checkpoint c)) c.header
    pub blocks : (k : ℕ) → OwnsByte c k → durable t k ≡ c.view k
    pub seen : (k : ℕ) → OwnsByte c k ⊎ InSlot (slot_of_checkpoint c) k → image k ≡ durable t k
    pub unchanged : (k : ℕ) → OwnsByte c k ⊎ InSlot (slot_of_checkpoint c) k → IsChanged t k → ⊥

  -- the newest completed checkpoint is guarded, if there is one
  abbrev pub IsGuarded : Trace → Places → Newest → Type 0
  IsGuarded t image (Blank first) = Unit {0}
  IsGuarded t image (Completed checkpoint) = IsGuardedCheckpoint t image checkpoint

  -- no flush is under way
  pub record IsAtRest (t : Trace) (image : Places) (newest : Newest) : Type 0 where
    pub guards : IsGuarded t image newest
    -- all headers that ever appeared in a slot are at most as new
    pub older : (s : ℕ) (b : Places) (h : v.Header) → IsSlot s → Appeared (header_place s) header_bytes t b → v.HeaderAt s b h → v.number h ≤ number_of newest

  -- the bytes are those of the header under way, in its slot
  pub record IsHeaderUnderWay (f : Frozen) (s : ℕ) (b : Places) : Type 0 where
    pub slot : s ≡ slot_of_checkpoint f.checkpoint
    pub bytes : (k : ℕ) → k < header_bytes → b k ≡ slice_index f.bytes k

  -- what doesn't change while a flush is under way
  pub record IsPlanned (newest : Newest) (f : Frozen) : Type 0 where
    pub next : v.number f.checkpoint.header ≡ suc (number_of newest)
    pub checkpoint : IsCheckpoint f.checkpoint
    pub long : length f.bytes ≡ header_bytes
    pub spelled : v.HeaderAt (slot_of_checkpoint f.checkpoint) (places f.bytes) f.checkpoint.header
    -- the queue spells the frozen image, off all that the completed header needs
    pub queue : (e : Entry) → IsAmong f.queue e → Holds e.at e.bytes f.checkpoint.view
    pub queue_off : (k : ℕ) → InEntries f.queue k → NewestOwnsByte newest k → ⊥
    pub off_slots : (s k : ℕ) → IsSlot s → InEntries f.queue k → InSlot s k → ⊥

  -- each byte of the frozen blocks is in the queue, or stands in the image already
  abbrev pub IsQueuedOrThere : Places → Frozen → Type 0
  IsQueuedOrThere image f = (k : ℕ) → OwnsByte f.checkpoint k → InEntries f.queue k ⊎ (image k ≡ f.checkpoint.view k)

  -- a flush is under way
  pub record IsFlushing (t : Trace) (image : Places) (newest : Newest) (f : Frozen) (progress : Progress) (stage : Stage) : Type 0 where
    pub guards : IsGuarded t image newest
    pub plan : IsPlanned newest f
    -- all headers that ever appeared in a slot are at most as new, but for the one under way
    pub older : (s : ℕ) (b : Places) (h : v.Header) → IsSlot s → Appeared (header_place s) header_bytes t b → v.HeaderAt s b h
        → (v.number h ≤ number_of newest) ⊎ ((progress ≡ Sent) × IsHeaderUnderWay f s b)
    -- what this try has left to write is of the queue, and the rest of the frozen image stands
    pub queued : (e : Entry) → IsAmong (entries_left stage) e → IsAmong f.queue e
    pub written : (e : Entry) → IsAmong f.queue e → IsAmong (entries_left stage) e ⊎ Holds e.at e.bytes image
    pub others : IsQueuedOrThere image f
    -- once the blocks were synced they are durable, and no write since the last sync changed any of them
    pub blocks_durable : progress ≢ Fresh → (k : ℕ) → OwnsByte f.checkpoint k ⊎ InEntries f.queue k → durable t k ≡ f.checkpoint.view k
    pub unchanged : progress ≢ Fresh → (k : ℕ) → OwnsByte f.checkpoint k → IsChanged t k → ⊥
    -- the header is sent only after that sync
    pub secured : stage ≡ Blocks_synced → progress ≢ Fresh
    pub sent : stage ≡ Header_written → (progress ≡ Sent) × Holds (header_place (slot_of_checkpoint f.checkpoint)) f.bytes image

  -- headers are torn into no others: each header that the image has in a slot stood there at the opening, or was to be written there; of a slot that was written in part nothing is supposed
  abbrev pub HasOldHeaders : Trace → Places → Type 0
  HasOldHeaders t image = (s : ℕ) (h : v.Header) → IsSlot s → v.HeaderAt s (slot_bytes image s) h → Appeared (header_place s) header_bytes t (slot_bytes image s)

  -- mounting the image gives this checkpoint
  pub record Lands (checkpoint : Checkpoint) (image : Places) : Type 0 where
    pub newest : IsNewest v image checkpoint.header
    pub stands : v.Stands image checkpoint.header checkpoint.forest
    -- and all its blocks are read as they were frozen
    pub same : SameReached v checkpoint.view (v.roots checkpoint.header) image

  -- mounting the image gives the newest completed checkpoint, or finds no header where there is none
  abbrev pub LandsOn : Newest → Places → Type 0
  LandsOn (Blank first) image = HasNoHeader v image
  LandsOn (Completed checkpoint) image = Lands checkpoint image
