-- The steps of a flush by which call comes next.
use Rattle.std.proofs.Common.{slice_index_or, ◌≡◌, ◌<◌, ◌≤◌, ℕ, zero, suc, List, [], ◌∷◌, length, sym, subst, arith}
use Rattle.std.specs.Prelude.{Result}
use Rattle.h2_num.specs.Places.{Holds, Places, Same, SameOutside}
use Rattle.h2_disk.specs.Laid.{laid}
use Rattle.h2_disk.specs.declared.disk.DiskFault.{DiskFault}
use Rattle.h2_disk.specs.Trace.{Trace}
use Rattle.h2_checkpoint.specs.Format.{Format}
use Rattle.h2_checkpoint.specs.Queue.{Entry}
use Rattle.h2_checkpoint.specs.OverlayLaws.{overlay_is}
use Rattle.h2_checkpoint.specs.Checkpoint.{Frozen, Newest, Progress, Writing}
use Rattle.h2_checkpoint.specs.Marks.{Mark}
use Rattle.h2_checkpoint.specs.Runs.{UnderWay}
use Rattle.h2_checkpoint.specs.Stands.{DiskState, StandsAt}
use Rattle.h2_checkpoint.specs.Steps.{IsPlanOf, SameBesidePiece, StepsImage, marks_of_fault, queue_of, stage_of, with_piece}
use Rattle.h2_checkpoint.specs.declared.piece.Piece.{Piece}
use Rattle.h2_checkpoint.specs.declared.next.Next.{Next}
use Rattle.h2_checkpoint.specs.declared.next.Stepped.{Stepped}

-- what a call does to the image, by which call it was
pub image_by_next : (pieces : List Piece) (place : ℕ) (header : List ℕ) (a b : Next) (result : Result Stepped DiskFault) (i j : Places) → a ≡ b → StepsImage pieces place header b result i j → StepsImage pieces place header a result i j
image_by_next pieces place header a b result i j e s = subst (λ (z : Next). StepsImage pieces place header z result i j) (sym e) s

-- a written piece is laid over the image
pub piece_laid : (pieces : List Piece) (k : ℕ) (piece : Piece) (bytes : List ℕ) (i j : Places) → k < length pieces → piece ≡ slice_index_or pieces k piece → bytes ≡ piece.bytes
    → Holds piece.at bytes j → SameOutside piece.at (length bytes) i j → Same (with_piece pieces k i) j
piece_laid [] k piece bytes i j lt is same stands others = absurd (omega arith)
piece_laid (p ∷ pieces) zero piece bytes i j lt is same stands others =
    subst (λ (z : Piece). Same (laid z.at z.bytes i) j) is
    (overlay_is piece.at piece.bytes i j (subst (λ (z : List ℕ). Holds piece.at z j) same stands) (subst (λ (z : List ℕ). SameOutside piece.at (length z) i j) same others))
piece_laid (p ∷ pieces) (suc k) piece bytes i j lt is same stands others = piece_laid pieces k piece bytes i j (omega arith) is same stands others

-- a piece that fails changes nothing beside it
pub beside_piece : (pieces : List Piece) (k : ℕ) (piece : Piece) (bytes : List ℕ) (i j : Places) → k < length pieces → piece ≡ slice_index_or pieces k piece → bytes ≡ piece.bytes
    → SameOutside piece.at (length bytes) i j → SameBesidePiece pieces k i j
beside_piece [] k piece bytes i j lt is same others = absurd (omega arith)
beside_piece (p ∷ pieces) zero piece bytes i j lt is same others =
    subst (λ (z : Piece). SameOutside z.at (length z.bytes) i j) is (subst (λ (z : List ℕ). SameOutside piece.at (length z) i j) same others)
beside_piece (p ∷ pieces) (suc k) piece bytes i j lt is same others = beside_piece pieces k piece bytes i j (omega arith) is same others

-- behind the last piece nothing changes
pub no_piece_laid : (pieces : List Piece) (k : ℕ) (i j : Places) → length pieces ≤ k → Same i j → Same (with_piece pieces k i) j
no_piece_laid [] k i j le same = same
no_piece_laid (p ∷ pieces) zero i j le same = absurd (omega arith)
no_piece_laid (p ∷ pieces) (suc k) i j le same = no_piece_laid pieces k i j (omega arith) same

pub beside_no_piece : (pieces : List Piece) (k : ℕ) (i j : Places) → length pieces ≤ k → Same i j → SameBesidePiece pieces k i j
beside_no_piece [] k i j le same = same
beside_no_piece (p ∷ pieces) zero i j le same = absurd (omega arith)
beside_no_piece (p ∷ pieces) (suc k) i j le same = beside_no_piece pieces k i j (omega arith) same

-- a written header is laid over the image
pub header_laid : (place : ℕ) (header bytes : List ℕ) (i j : Places) → bytes ≡ header → Holds place bytes j → SameOutside place (length bytes) i j → Same (laid place header i) j
header_laid place header bytes i j is stands others = subst (λ (z : List ℕ). Same (laid place z i) j) is (overlay_is place bytes i j stands others)

module _ (v : Format) (start : ℕ) (opening : Newest v) (before : Trace) (marks : List (Mark v.Forest)) where
  pub from_next : (x : DiskState) (d : Newest v) (f : Frozen v) (g : Progress) (pieces : List Piece) (a b : Next) → a ≡ b
      → StandsAt v start opening before x d (UnderWay f g (stage_of a pieces)) marks → StandsAt v start opening before x d (UnderWay f g (stage_of b pieces)) marks
  from_next x d f g pieces a b e s = subst (λ (z : Next). StandsAt v start opening before x d (UnderWay f g (stage_of z pieces)) marks) e s

  pub to_fault : (x : DiskState) (d : Newest v) (f : Frozen v) (g : Progress) (pieces : List Piece) (place : ℕ) (header : List ℕ) (a b : Next) → a ≡ b → IsPlanOf v f pieces place header
      → StandsAt v start opening before x d (UnderWay f g (Writing f.queue)) (marks_of_fault b (v.number f.checkpoint.header) x.moment marks)
      → StandsAt v start opening before x d (UnderWay f g (Writing (queue_of pieces))) (marks_of_fault a (v.number f.checkpoint.header) x.moment marks)
  to_fault x d f g pieces place header a b e plan s = subst (λ (z : Next). StandsAt v start opening before x d (UnderWay f g (Writing (queue_of pieces))) (marks_of_fault z (v.number f.checkpoint.header) x.moment marks)) (sym e)
      (subst (λ (z : List Entry). StandsAt v start opening before x d (UnderWay f g (Writing z)) (marks_of_fault b (v.number f.checkpoint.header) x.moment marks)) plan.queue s)
