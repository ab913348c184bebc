-- A volume that is being made where there is none.
use Rattle.std.specs.Prelude.{◌≡◌, ◌⊎◌, ◌<◌, ◌≤◌, ℕ, ◌+◌, List, length}
use Rattle.h2_num.specs.Places.{Places}
use Rattle.h2_num.specs.Causes.{one_more}
use Rattle.h2_disk.specs.Trace.{Opened, Call, after, IsDurable}
use Rattle.h2_checkpoint.specs.Slots.{IsSlot, slot_bytes}
use Rattle.h2_checkpoint.specs.Format.{Format, IsLawful, IsNewest, HasNoHeader}
use Rattle.h2_checkpoint.specs.Checkpoint.{Blank, slot_of_checkpoint, Frozen, IsPlanned, IsQueuedOrThere}
use Rattle.h2_checkpoint.specs.Runs.{MayBeLeft}
use Rattle.h2_checkpoint.specs.Stands.{DiskState, MayBeCut}
use Rattle.h2_checkpoint.specs.Steps.{IsPlanOf}
use Rattle.h2_checkpoint.specs.declared.piece.Piece.{Piece}

module _ (v : Format) where
  -- no header yet, or the planned forest under a header with the planned number
  abbrev pub IsNoneOrMade : Frozen v → Places → Type 0
  IsNoneOrMade f image = HasNoHeader v image ⊎ ((h : v.Header) × IsNewest v image h × (v.number h ≡ v.number f.checkpoint.header) × v.Stands image h f.checkpoint.forest)

  -- the pieces and the header spell a first volume, on an image that has none
  pub record IsFirstPlan (f : Frozen v) (pieces : List Piece) (place : ℕ) (header : List ℕ) (image : Places) : Type 0 where
    pub none : HasNoHeader v image
    pub plan : IsPlanned v (Blank image) f
    pub pieces_are : IsPlanOf v f pieces place header
    pub others : IsQueuedOrThere v image f

  -- the moment at which the header's write begins: after all pieces and a sync
  abbrev pub header_moment : Frozen v → DiskState → ℕ
  header_moment f old = one_more (old.moment + length f.queue + 2)

  -- at each moment from the old state to the new one a cut leaves no header, or the planned volume, and before the header's write no header
  pub record CutsMake (f : Frozen v) (old new : DiskState) : Type 0 where
    pub since : List Call
    pub trace_is : new.trace ≡ after since old.trace
    -- by what went on since, on the image that was read
    pub by_calls : (m : ℕ) (image : Places) → old.moment ≤ m → m ≤ new.moment → MayBeLeft v (after since (Opened old.image)) m image → IsNoneOrMade f image
    -- by the disk's own trace, where the image was durable
    pub by_trace : IsDurable old.trace old.image → (m : ℕ) (image : Places) → old.moment ≤ m → m ≤ new.moment → MayBeCut v old.image since new.trace m image → IsNoneOrMade f image
    pub none_by_calls : (m : ℕ) (image : Places) → old.moment ≤ m → m ≤ new.moment → m < header_moment f old → MayBeLeft v (after since (Opened old.image)) m image → HasNoHeader v image
    pub none_by_trace : IsDurable old.trace old.image → (m : ℕ) (image : Places) → old.moment ≤ m → m ≤ new.moment → m < header_moment f old → MayBeCut v old.image since new.trace m image → HasNoHeader v image

  -- a volume is made of a first plan, and a cut at no moment leaves a part of it under a header
  abbrev pub MakesSafely : List Piece → ℕ → List ℕ → DiskState → DiskState → Type 0
  MakesSafely pieces place header old new = IsLawful v → (f : Frozen v) → IsFirstPlan f pieces place header old.image → CutsMake f old new

  -- the planned volume stands in the image, and no slot but its header's has a header
  pub record IsMade (f : Frozen v) (image : Places) : Type 0 where
    pub newest : IsNewest v image f.checkpoint.header
    pub stands : v.Stands image f.checkpoint.header f.checkpoint.forest
    pub only : (s : ℕ) (h : v.Header) → IsSlot s → v.HeaderAt s (slot_bytes image s) h → s ≡ slot_of_checkpoint v f.checkpoint

  -- a volume was made of a first plan
  abbrev pub Makes : List Piece → ℕ → List ℕ → Places → Places → Type 0
  Makes pieces place header old new = IsLawful v → (f : Frozen v) → IsFirstPlan f pieces place header old → IsMade f new
