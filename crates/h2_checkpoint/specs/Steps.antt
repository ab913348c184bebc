-- What the calls of a flush do to where a volume stands.
use Rattle.std.specs.Prelude.{◌≡◌, ◌⊎◌, ◌<◌, ◌≤◌, ◌+◌, ℕ, zero, suc, List, [], ◌∷◌, length, map, drop, Result, Ok, Err}
use Rattle.h2_num.specs.Places.{Places, InRange, Same, SameOutside}
use Rattle.h2_num.specs.Causes.{one_more}
use Rattle.h2_disk.specs.Trace.{Trace, IsDurable}
use Rattle.h2_disk.specs.declared.disk.DiskFault.{DiskFault}
use Rattle.h2_disk.specs.Laid.{laid}
use Rattle.h2_geom.specs.Places.{header_place}
use Rattle.h2_checkpoint.specs.Format.{Format, IsLawful}
use Rattle.h2_checkpoint.specs.Queue.{Entry, InEntries, entry_of, overlay_all}
use Rattle.h2_checkpoint.specs.Checkpoint.{Progress, Sent, progress_after_sync, Stage, Writing, Blocks_synced, Header_written, Newest, Completed, slot_of_checkpoint, Frozen}
use Rattle.h2_checkpoint.specs.Marks.{Mark, Header_out, Header_done}
use Rattle.h2_checkpoint.specs.Runs.{Idle, UnderWay}
use Rattle.h2_checkpoint.specs.Stands.{DiskState, StandsAt}
use Rattle.h2_checkpoint.specs.declared.piece.Piece.{Piece}
use Rattle.h2_checkpoint.specs.declared.next.Next.{Next}
use Rattle.h2_checkpoint.specs.declared.next.Next.TheVariants.{Pieces, Header, Finish}
use Rattle.h2_checkpoint.specs.declared.next.Stepped.{Stepped}
use Rattle.h2_checkpoint.specs.declared.next.Stepped.TheVariants.{Wrote, Synced, Out, Done}

-- the entries of the pieces
abbrev pub queue_of : List Piece → List Entry
queue_of pieces = map entry_of pieces

-- the image with the pieces and then the header written over it
abbrev pub image_with : List Piece → ℕ → List ℕ → Places → Places
image_with pieces place header image = laid place header (overlay_all (queue_of pieces) image)

-- the two are the same, but for what the pieces and the header cover
abbrev pub SameElsewhere : List Piece → ℕ → ℕ → Places → Places → Type 0
SameElsewhere pieces place n old new = (k : ℕ) → (InEntries (queue_of pieces) k → ⊥) → (InRange place n k → ⊥) → new k ≡ old k

-- the image with the piece of an index written over it; behind the last one there is none
abbrev pub with_piece : List Piece → ℕ → Places → Places
with_piece [] k image = image
with_piece (piece ∷ pieces) zero image = laid piece.at piece.bytes image
with_piece (piece ∷ pieces) (suc k) image = with_piece pieces k image

-- the two are the same, but for what the piece of an index covers
abbrev pub SameBesidePiece : List Piece → ℕ → Places → Places → Type 0
SameBesidePiece [] k old new = Same old new
SameBesidePiece (piece ∷ pieces) zero old new = SameOutside piece.at (length piece.bytes) old new
SameBesidePiece (piece ∷ pieces) (suc k) old new = SameBesidePiece pieces k old new

-- What the call that comes next does to the image: a write lays the piece's bytes, or the header's, over it, and after a fault their range may hold anything; a sync changes nothing.
abbrev pub StepsImage : List Piece → ℕ → List ℕ → Next → Result Stepped DiskFault → Places → Places → Type 0
StepsImage pieces place header (Pieces k) (Ok stepped) old new = Same (with_piece pieces k old) new
StepsImage pieces place header (Pieces k) (Err fault) old new = SameBesidePiece pieces k old new
StepsImage pieces place header Header (Ok stepped) old new = Same (laid place header old) new
StepsImage pieces place header Header (Err fault) old new = SameOutside place (length header) old new
StepsImage pieces place header Finish result old new = Same old new

-- the pieces and the header's bytes are those of the frozen flush
pub record IsPlanOf (v : Format) (f : Frozen v) (pieces : List Piece) (place : ℕ) (header : List ℕ) : Type 0 where
  pub queue : f.queue ≡ queue_of pieces
  pub place_is : place ≡ header_place (slot_of_checkpoint v f.checkpoint)
  pub header_is : f.bytes ≡ header

-- what a whole flush of so many pieces notes that begins at a moment: its header went out when its write began, after all pieces and a sync, and was done after one more sync
abbrev pub marks_of_flush : {F : Type 0} → ℕ → ℕ → ℕ → List (Mark F) → List (Mark F)
marks_of_flush number pieces moment marks = Header_done number (moment + pieces + 5) ∷ Header_out number (moment + pieces + 3) ∷ marks

-- a flush of so many pieces that a fault ended at a moment has noted nothing, where that came before the header's write, or else that the header went out when its write began
abbrev pub MayBeOut : {F : Type 0} → ℕ → ℕ → ℕ → ℕ → List (Mark F) → List (Mark F) → Type 0
MayBeOut number pieces moment moment_new marks marks_new =
    ((moment_new ≤ moment + pieces + 1) × (marks_new ≡ marks))
    ⊎ ((moment + pieces + 2 ≤ moment_new) × (moment_new ≤ moment + pieces + 4) × (marks_new ≡ Header_out number (one_more (moment + pieces + 2)) ∷ marks))

-- from a frozen flush to its completed checkpoint
abbrev pub Finishes : (v : Format) → List Piece → ℕ → List ℕ → DiskState → DiskState → Type 0
Finishes v pieces place header old new =
    IsLawful v → (start : ℕ) (opening newest : Newest v) (before : Trace) (f : Frozen v) (g : Progress) (marks : List (Mark v.Forest)) → IsPlanOf v f pieces place header
    → StandsAt v start opening before old newest (UnderWay f g (Writing f.queue)) marks
    → StandsAt v start opening before new (Completed f.checkpoint) Idle (marks_of_flush (v.number f.checkpoint.header) (length pieces) old.moment marks)

-- or a fault sets it back to the start of its queue
abbrev pub IsSetBack : (v : Format) → List Piece → ℕ → List ℕ → DiskState → DiskState → Type 0
IsSetBack v pieces place header old new =
    IsLawful v → (start : ℕ) (opening newest : Newest v) (before : Trace) (f : Frozen v) (g : Progress) (marks : List (Mark v.Forest)) → IsPlanOf v f pieces place header
    → StandsAt v start opening before old newest (UnderWay f g (Writing f.queue)) marks
    → (h : Progress) × (marks_new : List (Mark v.Forest)) × MayBeOut (v.number f.checkpoint.header) (length pieces) old.moment new.moment marks marks_new × StandsAt v start opening before new newest (UnderWay f h (Writing f.queue)) marks_new

-- all pieces are written
abbrev pub WritesPieces : (v : Format) → List Piece → DiskState → DiskState → Type 0
WritesPieces v pieces old new =
    IsLawful v → (start : ℕ) (opening newest : Newest v) (before : Trace) (f : Frozen v) (g : Progress) (marks : List (Mark v.Forest))
    → StandsAt v start opening before old newest (UnderWay f g (Writing (queue_of pieces))) marks
    → StandsAt v start opening before new newest (UnderWay f g (Writing [])) marks

-- a piece that fails sets the flush back
abbrev pub FailsToWritePieces : (v : Format) → List Piece → DiskState → DiskState → Type 0
FailsToWritePieces v pieces old new =
    IsLawful v → (start : ℕ) (opening newest : Newest v) (before : Trace) (f : Frozen v) (g : Progress) (marks : List (Mark v.Forest))
    → StandsAt v start opening before old newest (UnderWay f g (Writing (queue_of pieces))) marks
    → StandsAt v start opening before new newest (UnderWay f g (Writing f.queue)) marks

-- the header is written, and so it is noted
abbrev pub SendsHeader : (v : Format) → ℕ → List ℕ → DiskState → DiskState → Type 0
SendsHeader v place header old new =
    IsLawful v → (start : ℕ) (opening newest : Newest v) (before : Trace) (f : Frozen v) (g : Progress) (marks : List (Mark v.Forest))
    → place ≡ header_place (slot_of_checkpoint v f.checkpoint) → f.bytes ≡ header
    → StandsAt v start opening before old newest (UnderWay f g Blocks_synced) marks
    → StandsAt v start opening before new newest (UnderWay f Sent Header_written) (Header_out (v.number f.checkpoint.header) new.moment ∷ marks)

-- a header whose write fails may be out, and the flush is set back
abbrev pub FailsToSend : (v : Format) → ℕ → List ℕ → DiskState → DiskState → Type 0
FailsToSend v place header old new =
    IsLawful v → (start : ℕ) (opening newest : Newest v) (before : Trace) (f : Frozen v) (g : Progress) (marks : List (Mark v.Forest))
    → place ≡ header_place (slot_of_checkpoint v f.checkpoint) → f.bytes ≡ header
    → StandsAt v start opening before old newest (UnderWay f g Blocks_synced) marks
    → StandsAt v start opening before new newest (UnderWay f Sent (Writing f.queue)) (Header_out (v.number f.checkpoint.header) new.moment ∷ marks)

-- a sync of the written blocks makes them durable
abbrev pub SecuresBlocks : (v : Format) → DiskState → DiskState → Type 0
SecuresBlocks v old new =
    IsLawful v → (start : ℕ) (opening newest : Newest v) (before : Trace) (f : Frozen v) (g : Progress) (marks : List (Mark v.Forest))
    → StandsAt v start opening before old newest (UnderWay f g (Writing [])) marks
    → StandsAt v start opening before new newest (UnderWay f (progress_after_sync g) Blocks_synced) marks

-- a sync of the written header completes the checkpoint
abbrev pub CompletesCheckpoint : (v : Format) → DiskState → DiskState → Type 0
CompletesCheckpoint v old new =
    IsLawful v → (start : ℕ) (opening newest : Newest v) (before : Trace) (f : Frozen v) (g : Progress) (marks : List (Mark v.Forest))
    → StandsAt v start opening before old newest (UnderWay f g Header_written) marks
    → StandsAt v start opening before new (Completed f.checkpoint) Idle (Header_done (v.number f.checkpoint.header) new.moment ∷ marks)

-- a sync that fails sets the flush back
abbrev pub FailsToSync : (v : Format) → DiskState → DiskState → Type 0
FailsToSync v old new =
    IsLawful v → (start : ℕ) (opening newest : Newest v) (before : Trace) (f : Frozen v) (g : Progress) (stage : Stage) (marks : List (Mark v.Forest))
    → StandsAt v start opening before old newest (UnderWay f g stage) marks
    → StandsAt v start opening before new newest (UnderWay f g (Writing f.queue)) marks

-- what the call that comes next does
abbrev pub stage_of : Next → List Piece → Stage
stage_of (Pieces k) pieces = Writing (queue_of (drop k pieces))
stage_of Header pieces = Blocks_synced
stage_of Finish pieces = Header_written

-- what a fault notes: that the header went out, where it was the header's write
abbrev pub marks_of_fault : {F : Type 0} → Next → ℕ → ℕ → List (Mark F) → List (Mark F)
marks_of_fault (Pieces k) number moment marks = marks
marks_of_fault Header number moment marks = Header_out number moment ∷ marks
marks_of_fault Finish number moment marks = marks

-- where the volume stands after a step
abbrev pub StandsAfter : (v : Format) → ℕ → Newest v → Trace → Newest v → Frozen v → List (Mark v.Forest) → Next → Stage → DiskState → Result Stepped DiskFault → Type 0
StandsAfter v start opening before newest f marks was now disk (Ok Wrote) = (g : Progress) × StandsAt v start opening before disk newest (UnderWay f g now) marks
StandsAfter v start opening before newest f marks was now disk (Ok Synced) = (g : Progress) × StandsAt v start opening before disk newest (UnderWay f g now) marks
StandsAfter v start opening before newest f marks was now disk (Ok Out) = StandsAt v start opening before disk newest (UnderWay f Sent now) (Header_out (v.number f.checkpoint.header) disk.moment ∷ marks)
StandsAfter v start opening before newest f marks was now disk (Ok Done) = StandsAt v start opening before disk (Completed f.checkpoint) Idle (Header_done (v.number f.checkpoint.header) disk.moment ∷ marks)
StandsAfter v start opening before newest f marks was now disk (Err fault) = (g : Progress) × StandsAt v start opening before disk newest (UnderWay f g now) (marks_of_fault was (v.number f.checkpoint.header) disk.moment marks)

-- a step of a flush that stands as it should
abbrev pub StepsFlush : (v : Format) → List Piece → ℕ → List ℕ → Next → Next → DiskState → DiskState → Result Stepped DiskFault → Type 0
StepsFlush v pieces place header was now old new result =
    IsLawful v → (start : ℕ) (opening newest : Newest v) (before : Trace) (f : Frozen v) (g : Progress) (marks : List (Mark v.Forest)) → IsPlanOf v f pieces place header
    → StandsAt v start opening before old newest (UnderWay f g (stage_of was pieces)) marks
    → StandsAfter v start opening before newest f marks was (stage_of now pieces) new result

-- which call was made, and which comes next; after a fault the first piece
abbrev pub Advances : Next → ℕ → Next → Result Stepped DiskFault → Type 0
Advances was pieces now (Err fault) = now ≡ Pieces 0
Advances (Pieces k) pieces now (Ok Wrote) = (k < pieces) × (now ≡ Pieces (k + 1))
Advances (Pieces k) pieces now (Ok Synced) = (pieces ≤ k) × (now ≡ Header)
Advances (Pieces k) pieces now (Ok Out) = ⊥
Advances (Pieces k) pieces now (Ok Done) = ⊥
Advances Header pieces now (Ok Wrote) = ⊥
Advances Header pieces now (Ok Synced) = ⊥
Advances Header pieces now (Ok Out) = now ≡ Finish
Advances Header pieces now (Ok Done) = ⊥
Advances Finish pieces now (Ok Wrote) = ⊥
Advances Finish pieces now (Ok Synced) = ⊥
Advances Finish pieces now (Ok Out) = ⊥
Advances Finish pieces now (Ok Done) = now ≡ Finish

-- a write moves the moment on by one, a sync by two, and a fault by one
abbrev pub Ticks : Result Stepped DiskFault → ℕ → ℕ → Type 0
Ticks (Ok Wrote) old new = new ≡ old + 1
Ticks (Ok Synced) old new = new ≡ old + 2
Ticks (Ok Out) old new = new ≡ old + 1
Ticks (Ok Done) old new = new ≡ old + 2
Ticks (Err fault) old new = new ≡ one_more old

-- after a sync the image is durable
abbrev pub EndsDurable : Result Stepped DiskFault → DiskState → Type 0
EndsDurable (Ok Synced) disk = IsDurable disk.trace disk.image
EndsDurable (Ok Done) disk = IsDurable disk.trace disk.image
EndsDurable _ disk = Unit {0}
