-- A whole flush from the relations of its calls.
use Rattle.std.proofs.Common.{◌≡◌, ◌≤◌, ℕ, ◌+◌, List, [], ◌∷◌, length, refl, sym, ◌∙◌, subst, inl, inr, arith}
use Rattle.h2_num.specs.Places.{Holds, Places, Same, SameOutside}
use Rattle.h2_num.specs.PlaceLaws.{outside}
use Rattle.h2_num.specs.Causes.{one_more}
use Rattle.h2_disk.specs.Trace.{IsDurable, Synced, Trace}
use Rattle.h2_checkpoint.specs.Format.{Format}
use Rattle.h2_checkpoint.specs.Queue.{Entry, InEntries, overlay_all}
use Rattle.h2_checkpoint.specs.Checkpoint.{Completed, Frozen, Header_written, Newest, Progress, Sent, Writing, progress_after_sync}
use Rattle.h2_checkpoint.specs.Marks.{Header_done, Header_out, Mark}
use Rattle.h2_checkpoint.specs.Runs.{Idle, UnderWay}
use Rattle.h2_checkpoint.specs.Stands.{DiskState, StandsAt}
use Rattle.h2_checkpoint.specs.Steps.{CompletesCheckpoint, FailsToSend, FailsToSync, FailsToWritePieces, Finishes, IsPlanOf, IsSetBack, SameElsewhere, SecuresBlocks, SendsHeader, WritesPieces, image_with, queue_of}
use Rattle.h2_checkpoint.specs.declared.piece.Piece.{Piece}
use Rattle.h2_checkpoint.specs.OverlayLaws.{overlay_is, overlay_others, overlay_same}

module _ (v : Format) (pieces : List Piece) (place : ℕ) (header : List ℕ) where
  -- the queue is that of the pieces
  by_pieces : (a : DiskState) (start : ℕ) (opening newest : Newest v) (before : Trace) (f : Frozen v) (g : Progress) (marks : List (Mark v.Forest)) → IsPlanOf v f pieces place header
      → StandsAt v start opening before a newest (UnderWay f g (Writing f.queue)) marks → StandsAt v start opening before a newest (UnderWay f g (Writing (queue_of pieces))) marks
  by_pieces a start opening newest before f g marks plan s = subst (λ (z : List Entry). StandsAt v start opening before a newest (UnderWay f g (Writing z)) marks) plan.queue s

  pub finishes : (a b c d e : DiskState) → WritesPieces v pieces a b → SecuresBlocks v b c → SendsHeader v place header c d → CompletesCheckpoint v d e → d.moment ≡ a.moment + length pieces + 3 → e.moment ≡ a.moment + length pieces + 5 → Finishes v pieces place header a e
  finishes a b c d e writes secures sends completes out done laws start opening newest before f g marks plan s =
      subst (λ (z : ℕ). StandsAt v start opening before e (Completed f.checkpoint) Idle (Header_done (v.number f.checkpoint.header) z ∷ Header_out (v.number f.checkpoint.header) (a.moment + length pieces + 3) ∷ marks)) done
      (subst (λ (z : ℕ). StandsAt v start opening before e (Completed f.checkpoint) Idle (Header_done (v.number f.checkpoint.header) e.moment ∷ Header_out (v.number f.checkpoint.header) z ∷ marks)) out
      (completes laws start opening newest before f Sent (Header_out (v.number f.checkpoint.header) d.moment ∷ marks)
      (sends laws start opening newest before f (progress_after_sync g) marks plan.place_is plan.header_is
      (secures laws start opening newest before f g marks
      (writes laws start opening newest before f g marks (by_pieces a start opening newest before f g marks plan s))))))

  pub pieces_set_back : (a b : DiskState) → FailsToWritePieces v pieces a b → b.moment ≤ a.moment + length pieces → IsSetBack v pieces place header a b
  pieces_set_back a b fails le laws start opening newest before f g marks plan s = (g, marks, inl (omega arith, refl), fails laws start opening newest before f g marks (by_pieces a start opening newest before f g marks plan s))

  pub blocks_set_back : (a b c : DiskState) → WritesPieces v pieces a b → FailsToSync v b c → c.moment ≤ a.moment + length pieces + 1 → IsSetBack v pieces place header a c
  blocks_set_back a b c writes fails le laws start opening newest before f g marks plan s = (
    g,
    marks,
    inl (le, refl),
    fails laws start opening newest before f g (Writing []) marks (writes laws start opening newest before f g marks (by_pieces a start opening newest before f g marks plan s)),
  )

  pub header_set_back : (a b c d : DiskState) → WritesPieces v pieces a b → SecuresBlocks v b c → FailsToSend v place header c d → d.moment ≡ one_more (a.moment + length pieces + 2) → a.moment + length pieces + 2 ≤ d.moment → IsSetBack v pieces place header a d
  header_set_back a b c d writes secures fails out ge laws start opening newest before f g marks plan s = (
    Sent,
    Header_out (v.number f.checkpoint.header) (one_more (a.moment + length pieces + 2)) ∷ marks,
    inr (ge, omega arith, refl),
    subst (λ (z : ℕ). StandsAt v start opening before d newest (UnderWay f Sent (Writing f.queue)) (Header_out (v.number f.checkpoint.header) z ∷ marks)) out
        (fails laws start opening newest before f (progress_after_sync g) marks plan.place_is plan.header_is
        (secures laws start opening newest before f g marks
        (writes laws start opening newest before f g marks (by_pieces a start opening newest before f g marks plan s)))),
  )

  pub last_set_back : (a b c d e : DiskState) → WritesPieces v pieces a b → SecuresBlocks v b c → SendsHeader v place header c d → FailsToSync v d e → d.moment ≡ one_more (a.moment + length pieces + 2) → a.moment + length pieces + 2 ≤ e.moment → e.moment ≤ a.moment + length pieces + 4 → IsSetBack v pieces place header a e
  last_set_back a b c d e writes secures sends fails out ge le laws start opening newest before f g marks plan s = (
    Sent,
    Header_out (v.number f.checkpoint.header) (one_more (a.moment + length pieces + 2)) ∷ marks,
    inr (ge, le, refl),
    subst (λ (z : ℕ). StandsAt v start opening before e newest (UnderWay f Sent (Writing f.queue)) (Header_out (v.number f.checkpoint.header) z ∷ marks)) out
        (fails laws start opening newest before f Sent Header_written (Header_out (v.number f.checkpoint.header) d.moment ∷ marks)
        (sends laws start opening newest before f (progress_after_sync g) marks plan.place_is plan.header_is
        (secures laws start opening newest before f g marks
        (writes laws start opening newest before f g marks (by_pieces a start opening newest before f g marks plan s))))),
  )

-- the image at the end
pub image_after : (pieces : List Piece) (place : ℕ) (header : List ℕ) (a b c d e : Places) → Same (overlay_all (queue_of pieces) a) b → Same b c → Holds place header d → SameOutside place (length header) c d → Same d e → Same (image_with pieces place header a) e
image_after pieces place header a b c d e written synced stands others finished k =
    finished k ∙ overlay_is place header c d stands others k ∙ overlay_same place header (overlay_all (queue_of pieces) a) c (λ n. synced n ∙ written n) k

-- after a sync the image is durable
pub durable_after : (t u : Trace) (image : Places) (m : ℕ) → u ≡ Synced m image t → IsDurable u image
durable_after t u image m is = subst (λ (z : Trace). IsDurable z image) (sym is) (record { nothing_written = λ k w. w; same = λ k. refl })

-- the pieces change nothing outside them
pub pieces_elsewhere : (pieces : List Piece) (a b : Places) → Same (overlay_all (queue_of pieces) a) b → (k : ℕ) → (InEntries (queue_of pieces) k → ⊥) → b k ≡ a k
pieces_elsewhere pieces a b written k out = written k ∙ elim (overlay_others (queue_of pieces) a k) [ inl q ↦ absurd (out q) | inr same ↦ same ]

-- nor does the header outside its place
pub elsewhere_after : (pieces : List Piece) (place n : ℕ) (a b c d e : Places) → Same (overlay_all (queue_of pieces) a) b → Same b c → SameOutside place n c d → Same d e → SameElsewhere pieces place n a e
elsewhere_after pieces place n a b c d e written synced others finished k out away =
    finished k ∙ outside place n c d others k away ∙ synced k ∙ pieces_elsewhere pieces a b written k out
