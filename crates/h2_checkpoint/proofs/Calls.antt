-- Where a volume stands after each call of its disk.
use Rattle.std.proofs.Common.{drop, slice_index_or, ◌≡◌, ◌<◌, ◌≤◌, ℕ, suc, ◌+◌, List, [], ◌∷◌, length, refl, sym, ap, ◌∙◌, subst, inl, inr, arith}
use Rattle.std.proofs.Math.Seq.{drop-cons}
use Rattle.std.proofs.lemmas.List.{drop_all}
use Rattle.h2_num.specs.Places.{Places, SameOutside}
use Rattle.h2_disk.specs.Trace.{Trace, Opened, Wrote, Synced, Call, Write, Sync, after, Tried}
use Rattle.h2_disk.specs.Disk.{Keeps, Writes, FailsToWrite, Syncs}
use Rattle.h2_geom.specs.Places.{header_place}
use Rattle.h2_checkpoint.specs.Format.{Format, IsLawful}
use Rattle.h2_checkpoint.specs.Queue.{Entry, entry_of}
use Rattle.h2_checkpoint.specs.Checkpoint.{IsPlanned, IsQueuedOrThere, Progress, Fresh, Sent, progress_after_sync, Stage, Writing, Blocks_synced, Header_written, Newest, Completed, base_of, slot_of_checkpoint, Frozen}
use Rattle.h2_checkpoint.specs.Marks.{Mark, Froze, Header_out, Header_done}
use Rattle.h2_checkpoint.specs.Runs.{Flush, Idle, UnderWay, IsOff, Does, reads, put, freeze, entry_written, entry_failed, blocks_synced, sync_failed, header_written, header_failed, header_done, IsOpening}
use Rattle.h2_checkpoint.specs.Stands.{DiskState, StandsAt, state_since}
use Rattle.h2_checkpoint.specs.Steps.{queue_of}
use Rattle.h2_checkpoint.specs.declared.piece.Piece.{Piece}
use Rattle.h2_checkpoint.proofs.Runs.{keeps, opened_survives}

-- the entries that are left at a piece
pub at_piece : (pieces : List Piece) (k : ℕ) (piece : Piece) → k < length pieces → piece ≡ slice_index_or pieces k piece → queue_of (drop k pieces) ≡ entry_of piece ∷ queue_of (drop (k + 1) pieces)
at_piece pieces k piece lt is = let next : suc k ≡ k + 1 = omega arith in ap queue_of (drop-cons pieces k piece lt) ∙ ap (λ (z : Piece). entry_of z ∷ queue_of (drop (suc k) pieces)) (sym is) ∙ ap (λ (z : ℕ). entry_of piece ∷ queue_of (drop z pieces)) next

module _ (v : Format) (laws : IsLawful v) (start : ℕ) (opening : Newest v) (before : Trace) (marks : List (Mark v.Forest)) where
  -- calls that lead from a state to another are made of the disk
  goes_on : (x y : DiskState) (d e : Newest v) (fl fl2 : Flush v) (marks2 : List (Mark v.Forest)) (since : List Call) (s : StandsAt v start opening before x d fl marks) → y.trace ≡ after since before
      → Does v (state_since v opening s.since x.image x.moment d fl marks) (state_since v opening since y.image y.moment e fl2 marks2) → StandsAt v start opening before y e fl2 marks2
  goes_on x y d e fl fl2 marks2 since s is does = record {
    since = since;
    trace_is = is;
    survives = keeps v laws opening start (state_since v opening s.since x.image x.moment d fl marks) (state_since v opening since y.image y.moment e fl2 marks2) does s.survives;
  }

  pub wrote_entry : (x y : DiskState) (d : Newest v) (f : Frozen v) (g : Progress) (e : Entry) (others : List Entry) → x.moment ≤ y.moment
      → Writes y.moment e.at e.bytes x.image y.image x.trace y.trace → StandsAt v start opening before x d (UnderWay f g (Writing (e ∷ others))) marks → StandsAt v start opening before y d (UnderWay f g (Writing others)) marks
  wrote_entry x y d f g e others le w s = goes_on x y d d (UnderWay f g (Writing (e ∷ others))) (UnderWay f g (Writing others)) marks (Write y.moment e.at e.bytes ∷ s.since) s
      (w.trace ∙ ap (Wrote y.moment e.at e.bytes) s.trace_is)
      (entry_written f g e others y.moment y.image refl le w.others w.inside)

  pub failed_entry : (x y : DiskState) (d : Newest v) (f : Frozen v) (g : Progress) (e : Entry) (others : List Entry) → x.moment ≤ y.moment
      → FailsToWrite y.moment e.at e.bytes x.image y.image x.trace y.trace → StandsAt v start opening before x d (UnderWay f g (Writing (e ∷ others))) marks → StandsAt v start opening before y d (UnderWay f g (Writing f.queue)) marks
  failed_entry x y d f g e others le w s = split w.tried
    where
      split : Tried y.moment e.at e.bytes x.trace x.image y.trace y.image → StandsAt v start opening before y d (UnderWay f g (Writing f.queue)) marks
      split (inl (is, kept)) = goes_on x y d d (UnderWay f g (Writing (e ∷ others))) (UnderWay f g (Writing f.queue)) marks (Write y.moment e.at e.bytes ∷ s.since) s
          (is ∙ ap (Wrote y.moment e.at e.bytes) s.trace_is)
          (entry_failed f g e others y.moment (after (Write y.moment e.at e.bytes ∷ s.since) (Opened (base_of v opening))) y.image refl le (inl (refl, kept)))
      split (inr (is, same)) = goes_on x y d d (UnderWay f g (Writing (e ∷ others))) (UnderWay f g (Writing f.queue)) marks s.since s
          (is ∙ s.trace_is)
          (sync_failed f g (Writing (e ∷ others)) y.moment y.image refl le same)

  pub synced_blocks : (x y : DiskState) (d : Newest v) (f : Frozen v) (g : Progress) → x.moment ≤ y.moment
      → Syncs y.moment x.image y.image x.trace y.trace → StandsAt v start opening before x d (UnderWay f g (Writing [])) marks → StandsAt v start opening before y d (UnderWay f (progress_after_sync g) Blocks_synced) marks
  synced_blocks x y d f g le w s = goes_on x y d d (UnderWay f g (Writing [])) (UnderWay f (progress_after_sync g) Blocks_synced) marks (Sync y.moment y.image ∷ s.since) s
      (w.trace ∙ ap (Synced y.moment y.image) s.trace_is)
      (blocks_synced f g y.moment y.image refl le w.image)

  pub failed_sync : (x y : DiskState) (d : Newest v) (f : Frozen v) (g : Progress) (stage : Stage) → x.moment ≤ y.moment
      → Keeps x.image y.image x.trace y.trace → StandsAt v start opening before x d (UnderWay f g stage) marks → StandsAt v start opening before y d (UnderWay f g (Writing f.queue)) marks
  failed_sync x y d f g stage le w s = goes_on x y d d (UnderWay f g stage) (UnderWay f g (Writing f.queue)) marks s.since s
      (w.trace ∙ s.trace_is)
      (sync_failed f g stage y.moment y.image refl le w.image)

  pub wrote_header : (x y : DiskState) (d : Newest v) (f : Frozen v) (g : Progress) (place : ℕ) (header : List ℕ) → x.moment ≤ y.moment → place ≡ header_place (slot_of_checkpoint v f.checkpoint) → f.bytes ≡ header
      → Writes y.moment place header x.image y.image x.trace y.trace → StandsAt v start opening before x d (UnderWay f g Blocks_synced) marks
      → StandsAt v start opening before y d (UnderWay f Sent Header_written) (Header_out (v.number f.checkpoint.header) y.moment ∷ marks)
  wrote_header x y d f g place header le at is w0 s = goes_on x y d d (UnderWay f g Blocks_synced) (UnderWay f Sent Header_written) (Header_out (v.number f.checkpoint.header) y.moment ∷ marks)
      (Write y.moment (header_place (slot_of_checkpoint v f.checkpoint)) f.bytes ∷ s.since) s
      (w.trace ∙ ap (Wrote y.moment (header_place (slot_of_checkpoint v f.checkpoint)) f.bytes) s.trace_is)
      (header_written f g y.moment y.image refl le w.others w.inside)
    where
      w : Writes y.moment (header_place (slot_of_checkpoint v f.checkpoint)) f.bytes x.image y.image x.trace y.trace
      w = subst (λ (z : ℕ). Writes y.moment z f.bytes x.image y.image x.trace y.trace) at (subst (λ (z : List ℕ). Writes y.moment place z x.image y.image x.trace y.trace) (sym is) w0)

  pub failed_header : (x y : DiskState) (d : Newest v) (f : Frozen v) (g : Progress) (place : ℕ) (header : List ℕ) → x.moment ≤ y.moment → place ≡ header_place (slot_of_checkpoint v f.checkpoint) → f.bytes ≡ header
      → FailsToWrite y.moment place header x.image y.image x.trace y.trace → StandsAt v start opening before x d (UnderWay f g Blocks_synced) marks
      → StandsAt v start opening before y d (UnderWay f Sent (Writing f.queue)) (Header_out (v.number f.checkpoint.header) y.moment ∷ marks)
  failed_header x y d f g place header le at is w0 s = split w.tried
    where
      w : FailsToWrite y.moment (header_place (slot_of_checkpoint v f.checkpoint)) f.bytes x.image y.image x.trace y.trace
      w = subst (λ (z : ℕ). FailsToWrite y.moment z f.bytes x.image y.image x.trace y.trace) at (subst (λ (z : List ℕ). FailsToWrite y.moment place z x.image y.image x.trace y.trace) (sym is) w0)

      split : Tried y.moment (header_place (slot_of_checkpoint v f.checkpoint)) f.bytes x.trace x.image y.trace y.image → StandsAt v start opening before y d (UnderWay f Sent (Writing f.queue)) (Header_out (v.number f.checkpoint.header) y.moment ∷ marks)
      split (inl (is, others)) = goes_on x y d d (UnderWay f g Blocks_synced) (UnderWay f Sent (Writing f.queue)) (Header_out (v.number f.checkpoint.header) y.moment ∷ marks)
          (Write y.moment (header_place (slot_of_checkpoint v f.checkpoint)) f.bytes ∷ s.since) s
          (is ∙ ap (Wrote y.moment (header_place (slot_of_checkpoint v f.checkpoint)) f.bytes) s.trace_is)
          (header_failed f g y.moment (after (Write y.moment (header_place (slot_of_checkpoint v f.checkpoint)) f.bytes ∷ s.since) (Opened (base_of v opening))) y.image refl le (inl (refl, others)))
      split (inr (is, same)) = goes_on x y d d (UnderWay f g Blocks_synced) (UnderWay f Sent (Writing f.queue)) (Header_out (v.number f.checkpoint.header) y.moment ∷ marks) s.since s
          (is ∙ s.trace_is)
          (header_failed f g y.moment (after s.since (Opened (base_of v opening))) y.image refl le (inr (refl, same)))

  pub done_header : (x y : DiskState) (d : Newest v) (f : Frozen v) (g : Progress) → x.moment ≤ y.moment
      → Syncs y.moment x.image y.image x.trace y.trace → StandsAt v start opening before x d (UnderWay f g Header_written) marks
      → StandsAt v start opening before y (Completed f.checkpoint) Idle (Header_done (v.number f.checkpoint.header) y.moment ∷ marks)
  done_header x y d f g le w s = goes_on x y d (Completed f.checkpoint) (UnderWay f g Header_written) Idle (Header_done (v.number f.checkpoint.header) y.moment ∷ marks) (Sync y.moment y.image ∷ s.since) s
      (w.trace ∙ ap (Synced y.moment y.image) s.trace_is)
      (header_done f g y.moment y.image refl le w.image)

  pub wrote_piece : (x y : DiskState) (d : Newest v) (f : Frozen v) (g : Progress) (pieces : List Piece) (k : ℕ) (piece : Piece) (bytes : List ℕ) → x.moment ≤ y.moment
      → k < length pieces → piece ≡ slice_index_or pieces k piece → bytes ≡ piece.bytes → Writes y.moment piece.at bytes x.image y.image x.trace y.trace
      → StandsAt v start opening before x d (UnderWay f g (Writing (queue_of (drop k pieces)))) marks → StandsAt v start opening before y d (UnderWay f g (Writing (queue_of (drop (k + 1) pieces)))) marks
  wrote_piece x y d f g pieces k piece bytes le lt is same w s = wrote_entry x y d f g (entry_of piece) (queue_of (drop (k + 1) pieces)) le
      (subst (λ (z : List ℕ). Writes y.moment piece.at z x.image y.image x.trace y.trace) same w)
      (subst (λ (z : List Entry). StandsAt v start opening before x d (UnderWay f g (Writing z)) marks) (at_piece pieces k piece lt is) s)

  pub failed_piece : (x y : DiskState) (d : Newest v) (f : Frozen v) (g : Progress) (pieces : List Piece) (k : ℕ) (piece : Piece) (bytes : List ℕ) → x.moment ≤ y.moment
      → k < length pieces → piece ≡ slice_index_or pieces k piece → bytes ≡ piece.bytes → FailsToWrite y.moment piece.at bytes x.image y.image x.trace y.trace
      → StandsAt v start opening before x d (UnderWay f g (Writing (queue_of (drop k pieces)))) marks → StandsAt v start opening before y d (UnderWay f g (Writing f.queue)) marks
  failed_piece x y d f g pieces k piece bytes le lt is same w s = failed_entry x y d f g (entry_of piece) (queue_of (drop (k + 1) pieces)) le
      (subst (λ (z : List ℕ). FailsToWrite y.moment piece.at z x.image y.image x.trace y.trace) same w)
      (subst (λ (z : List Entry). StandsAt v start opening before x d (UnderWay f g (Writing z)) marks) (at_piece pieces k piece lt is) s)

  -- after the last piece none is left
  pub all_pieces : (x : DiskState) (d : Newest v) (f : Frozen v) (g : Progress) (pieces : List Piece) (k : ℕ) → length pieces ≤ k
      → StandsAt v start opening before x d (UnderWay f g (Writing (queue_of (drop k pieces)))) marks → StandsAt v start opening before x d (UnderWay f g (Writing [])) marks
  all_pieces x d f g pieces k le s = subst (λ (z : List Piece). StandsAt v start opening before x d (UnderWay f g (Writing (queue_of z))) marks) (drop_all k pieces le) s

  -- the opening
  pub stands_opened : (x : DiskState) → IsOpening v opening x.image → marks ≡ [] → StandsAt v x.moment opening x.trace x opening Idle marks
  stands_opened x o none = subst (λ (z : List (Mark v.Forest)). StandsAt v x.moment opening x.trace x opening Idle z) (sym none) (record {
    since = [];
    trace_is = refl;
    survives = opened_survives v laws opening x.image x.moment o;
  })

  -- a read
  pub read_on : (x y : DiskState) (d : Newest v) (fl : Flush v) → x.moment ≤ y.moment → Keeps x.image y.image x.trace y.trace → StandsAt v start opening before x d fl marks → StandsAt v start opening before y d fl marks
  read_on x y d fl le w s = goes_on x y d d fl fl marks s.since s (w.trace ∙ s.trace_is) (reads y.moment y.image le w.image)

  -- a command's write
  pub put_on : (x y : DiskState) (at : ℕ) (bytes : List ℕ) (d : Newest v) (fl : Flush v) → x.moment ≤ y.moment → IsOff v d fl at (length bytes)
      → Tried y.moment at bytes x.trace x.image y.trace y.image → StandsAt v start opening before x d fl marks → StandsAt v start opening before y d fl marks
  put_on x y at bytes d fl le off (inl (is, kept)) s = goes_on x y d d fl fl marks (Write y.moment at bytes ∷ s.since) s
      (is ∙ ap (Wrote y.moment at bytes) s.trace_is)
      (put y.moment at bytes (after (Write y.moment at bytes ∷ s.since) (Opened (base_of v opening))) y.image le (inl (refl, kept)) off)
  put_on x y at bytes d fl le off (inr (is, same)) s = goes_on x y d d fl fl marks s.since s (is ∙ s.trace_is) (reads y.moment y.image le same)

  -- a freeze
  pub freeze_on : (x : DiskState) (d : Newest v) (f : Frozen v) → IsPlanned v d f → IsQueuedOrThere v x.image f
      → StandsAt v start opening before x d Idle marks → StandsAt v start opening before x d (UnderWay f Fresh (Writing f.queue)) (Froze (v.number f.checkpoint.header) f.checkpoint.forest ∷ marks)
  freeze_on x d f plan others s = goes_on x x d d Idle (UnderWay f Fresh (Writing f.queue)) (Froze (v.number f.checkpoint.header) f.checkpoint.forest ∷ marks) s.since s s.trace_is
      (freeze f refl plan others)

-- a write that fails changes nothing outside its range
pub tried_outside : (moment at : ℕ) (bytes : List ℕ) (i j : Places) (t u : Trace) → FailsToWrite moment at bytes i j t u → SameOutside at (length bytes) i j
tried_outside moment at bytes i j t u w = split w.tried
  where
    split : Tried moment at bytes t i u j → SameOutside at (length bytes) i j
    split (inl (is, kept)) = kept
    split (inr (is, same)) = record { before = λ k lt. same k; after = λ k le. same k }
