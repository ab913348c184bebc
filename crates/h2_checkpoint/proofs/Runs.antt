-- The law of crashes: each step keeps that a cut at any moment so far mounts a checkpoint that may be landed on.
use Rattle.std.proofs.Common.{◌≡◌, ◌⊎◌, ◌<◌, ◌≤◌, ℕ, suc, List, [], ◌∷◌, length, refl, sym, ap, ◌∙◌, subst, inl, inr, arith}
use Rattle.std.specs.Prelude.{nat_le, true, false}
use Rattle.std.proofs.lemmas.Bool.{cases_lt, le-leb, lt-leb}
use Rattle.h2_num.specs.Places.{InRange, Places, Same, SameOutside}
use Rattle.h2_disk.specs.Trace.{KeepsDurable, MayLeave, Opened, Synced, Trace, Tried, Wrote, up_to}
use Rattle.h2_checkpoint.specs.Checkpoint.{Blank, Blocks_synced, Checkpoint, Completed, Fresh, Frozen, HasOldHeaders, Header_written, IsAtRest, IsFlushing, Lands, LandsOn, Newest, NewestOwnsByte, Progress, Sent, Writing, base_of, number_of, progress_after_sync, slot_of_checkpoint}
use Rattle.h2_checkpoint.specs.Format.{Format, IsLawful}
use Rattle.h2_checkpoint.specs.Marks.{Froze, Header_done, Header_out, IsFrozenForest, IsLanding, Mark, newest_at}
use Rattle.h2_checkpoint.specs.Queue.{Entry}
use Rattle.h2_checkpoint.specs.Runs.{CrashLaw, Does, Flush, HasFrozenForest, Idle, IsKept, IsMarked, IsOff, IsOffFlush, IsOpening, IsOpeningForest, MayBeLeft, Mounts, MountsCheckpoint, Present, Run, State, Survives, UnderWay, blocks_synced, entry_failed, entry_written, freeze, header_done, header_failed, header_written, more, none, opened, put, reads, sync_failed}
use Rattle.h2_geom.specs.Places.{header_place}
use Rattle.h2_checkpoint.specs.Slots.{InSlot, IsSlot, slot_bytes}
use Rattle.h2_checkpoint.proofs.Steps as steps
use Rattle.h2_checkpoint.proofs.Parts.{IsIntact, intact}
use Rattle.h2_checkpoint.proofs.Landing.{lands_at_rest, lands_in_flush}

before_write : (t m at : ℕ) (bytes : List ℕ) (p : Trace) → m < t → up_to m (Wrote t at bytes p) ≡ up_to m p
before_write t m at bytes p lt = let a : nat_le t m ≡ false = lt-leb t m lt in rw a refl

after_write : (t m at : ℕ) (bytes : List ℕ) (p : Trace) → t ≤ m → up_to m (Wrote t at bytes p) ≡ Wrote t at bytes p
after_write t m at bytes p le = let a : nat_le t m ≡ true = le-leb t m le in rw a refl

before_sync : (t m : ℕ) (i : Places) (p : Trace) → m < t → up_to m (Synced t i p) ≡ up_to m p
before_sync t m i p lt = let a : nat_le t m ≡ false = lt-leb t m lt in rw a refl

after_sync : (t m : ℕ) (i : Places) (p : Trace) → t ≤ m → up_to m (Synced t i p) ≡ Synced t i p
after_sync t m i p le = let a : nat_le t m ≡ true = le-leb t m le in rw a refl

before_done : {F : Type 0} (o n t m : ℕ) (marks : List (Mark F)) → m < t → newest_at o (Header_done n t ∷ marks) m ≡ newest_at o marks m
before_done o n t m marks lt = let a : nat_le t m ≡ false = lt-leb t m lt in rw a refl

after_done : {F : Type 0} (o n t m : ℕ) (marks : List (Mark F)) → t ≤ m → newest_at o (Header_done n t ∷ marks) m ≡ n
after_done o n t m marks le = let a : nat_le t m ≡ true = le-leb t m le in rw a refl

before_try : (t m at : ℕ) (bytes : List ℕ) (p q : Trace) (i j : Places) → Tried t at bytes p i q j → m < t → up_to m q ≡ up_to m p
before_try t m at bytes p q i j (inl (e, same)) lt = rw e (before_write t m at bytes p lt)
before_try t m at bytes p q i j (inr (e, same)) lt = rw e refl

after_try : (t m at : ℕ) (bytes : List ℕ) (p q : Trace) (i j : Places) → Tried t at bytes p i q j → t ≤ m → up_to m p ≡ p → up_to m q ≡ q
after_try t m at bytes p q i j (inl (e, same)) le all = rw e (after_write t m at bytes p le)
after_try t m at bytes p q i j (inr (e, same)) le all = rw e all

brought_checkpoint : (v : Format) (o : Newest v) (old new : List (Mark v.Forest)) (m : ℕ) (image : Places) → ((n : ℕ) → IsLanding (number_of v o) old m n → IsLanding (number_of v o) new m n)
    → ((n : ℕ) (forest : v.Forest) → IsFrozenForest (IsOpeningForest v o) old n forest → IsFrozenForest (IsOpeningForest v o) new n forest) → MountsCheckpoint v o old m image → MountsCheckpoint v o new m image
brought_checkpoint v o old new m image landing frozen mx = record {
  header = mx.header;
  forest = mx.forest;
  newest = mx.newest;
  stands = mx.stands;
  landing = landing (v.number mx.header) mx.landing;
  frozen = frozen (v.number mx.header) mx.forest mx.frozen;
}

brought_on : (v : Format) (o : Newest v) (old new : List (Mark v.Forest)) (m : ℕ) (image : Places) → ((n : ℕ) → IsLanding (number_of v o) old m n → IsLanding (number_of v o) new m n)
    → ((n : ℕ) (forest : v.Forest) → IsFrozenForest (IsOpeningForest v o) old n forest → IsFrozenForest (IsOpeningForest v o) new n forest) → Mounts v o old m image → Mounts v o new m image
brought_on v (Completed r) old new m image landing frozen mx = brought_checkpoint v (Completed r) old new m image landing frozen mx
brought_on v (Blank first) old new m image landing frozen (inl l) = inl (l.0, landing 0 l.1)
brought_on v (Blank first) old new m image landing frozen (inr mx) = inr (brought_checkpoint v (Blank first) old new m image landing frozen mx)

forest_later : (v : Format) (o d : Newest v) (old new : List (Mark v.Forest)) → ((n : ℕ) (forest : v.Forest) → IsFrozenForest (IsOpeningForest v o) old n forest → IsFrozenForest (IsOpeningForest v o) new n forest) → HasFrozenForest v o old d → HasFrozenForest v o new d
forest_later v o (Completed d) old new grow h = grow (v.number d.header) d.forest h
forest_later v (Blank first) (Blank other) old new grow h = tt
forest_later v (Completed r) (Blank other) old new grow h = absurd h

module _ (v : Format) (laws : IsLawful v) (opening : Newest v) where
  lands_checkpoint : (checkpoint : Checkpoint v) (o : Newest v) (marks : List (Mark v.Forest)) (m : ℕ) (image : Places) → Lands v checkpoint image → IsLanding (number_of v o) marks m (v.number checkpoint.header)
      → IsFrozenForest (IsOpeningForest v o) marks (v.number checkpoint.header) checkpoint.forest → Mounts v o marks m image
  lands_checkpoint checkpoint (Blank first) marks m image l landing frozen = inr (record { header = checkpoint.header; forest = checkpoint.forest; newest = l.newest; stands = l.stands; landing = landing; frozen = frozen })
  lands_checkpoint checkpoint (Completed r) marks m image l landing frozen = record { header = checkpoint.header; forest = checkpoint.forest; newest = l.newest; stands = l.stands; landing = landing; frozen = frozen }

  lands_done : (d o : Newest v) (marks : List (Mark v.Forest)) (m : ℕ) (image : Places) → LandsOn v d image → newest_at (number_of v o) marks m ≡ number_of v d → HasFrozenForest v o marks d → Mounts v o marks m image
  lands_done (Completed d) o marks m image l newest forest = lands_checkpoint d o marks m image l (inl (sym newest)) forest
  lands_done (Blank first) (Blank other) marks m image l newest forest = inl (l, inl (sym newest))
  lands_done (Blank first) (Completed r) marks m image l newest forest = absurd forest

  now : (p : Trace) (i : Places) (d : Newest v) (fl : Flush v) (marks : List (Mark v.Forest)) (moment m : ℕ) (image : Places) → IsKept v p i d fl → IsMarked v opening marks moment fl
      → newest_at (number_of v opening) marks m ≡ number_of v d → HasFrozenForest v opening marks d
      → moment ≤ m → HasOldHeaders v p image → IsIntact p image → Mounts v opening marks m image
  now p i d Idle marks moment m image k mk newest forest le old keeps = lands_done d opening marks m image (lands_at_rest v laws p i image d k old keeps) newest forest
  now p i d (UnderWay f g s) marks moment m image k mk newest forest le old keeps = elim (lands_in_flush v laws p i image d f g s k old keeps) [
    | inl l ↦ lands_done d opening marks m image l newest forest
    | inr l ↦ lands_checkpoint f.checkpoint opening marks m image l.1 (inr (k.plan.next ∙ ap suc (sym newest), mk.1 l.0 m le)) mk.0
  ]

  mounts_now : (x : State v) → Present v opening x → (m : ℕ) (image : Places) → x.moment ≤ m → MayBeLeft v x.trace m image → Mounts v opening x.marks m image
  mounts_now x pr m image le left = now x.trace x.image x.newest x.flush x.marks x.moment m image pr.kept pr.marked (pr.newest m le) pr.forest le
      (subst (λ (q : Trace). HasOldHeaders v q image) (pr.times m le) left.headers)
      (intact x.trace image (subst (λ (q : Trace). MayLeave q image) (pr.times m le) left.left) (subst (λ (q : Trace). KeepsDurable q image) (pr.times m le) left.durable))

  -- the state goes on from another
  record Extends (x y : State v) : Type 0 where
    later : x.moment ≤ y.moment
    trace : (m : ℕ) → m < y.moment → up_to m y.trace ≡ up_to m x.trace
    landing : (m n : ℕ) → m < y.moment → IsLanding (number_of v opening) x.marks m n → IsLanding (number_of v opening) y.marks m n
    frozen : (n : ℕ) (forest : v.Forest) → IsFrozenForest (IsOpeningForest v opening) x.marks n forest → IsFrozenForest (IsOpeningForest v opening) y.marks n forest

  goes_on : (start : ℕ) (x y : State v) → Survives v start opening x → Present v opening y → Extends x y → Survives v start opening y
  goes_on start x y sx py e = record {
    present = py;
    cuts = λ m image ge le left. split m image ge left (cases_lt m y.moment) (cases_lt x.moment m);
  }
    where
      brought : (m : ℕ) (image : Places) → m < y.moment → Mounts v opening x.marks m image → Mounts v opening y.marks m image
      brought m image lt mx = brought_on v opening x.marks y.marks m image (λ n l. e.landing m n lt l) e.frozen mx

      left_before : (m : ℕ) (image : Places) → m < y.moment → MayBeLeft v y.trace m image → MayBeLeft v x.trace m image
      left_before m image lt left = record {
        left = subst (λ (q : Trace). MayLeave q image) (e.trace m lt) left.left;
        headers = subst (λ (q : Trace). HasOldHeaders v q image) (e.trace m lt) left.headers;
        durable = subst (λ (q : Trace). KeepsDurable q image) (e.trace m lt) left.durable;
      }

      split : (m : ℕ) (image : Places) → start ≤ m → MayBeLeft v y.trace m image → (m < y.moment) ⊎ (y.moment ≤ m) → (x.moment < m) ⊎ (m ≤ x.moment) → Mounts v opening y.marks m image
      split m image ge left (inr le) c = mounts_now y py m image le left
      split m image ge left (inl lt) (inl later) = brought m image lt (mounts_now x sx.present m image (omega arith) (left_before m image lt left))
      split m image ge left (inl lt) (inr le) = brought m image lt (sx.cuts m image ge le (left_before m image lt left))

  marked_later : (marks : List (Mark v.Forest)) (moment t : ℕ) (fl : Flush v) → moment ≤ t → IsMarked v opening marks moment fl → IsMarked v opening marks t fl
  marked_later marks moment t Idle le mk = tt
  marked_later marks moment t (UnderWay f g s) le mk = (mk.0, λ e m ge. mk.1 e m (omega arith))

  kept_same : (p : Trace) (i j : Places) (d : Newest v) (fl : Flush v) → Same i j → IsKept v p i d fl → IsKept v p j d fl
  kept_same p i j d Idle same k = steps.rests_same v laws p i j d k same
  kept_same p i j d (UnderWay f g s) same k = steps.flushes_same v laws p i j d f g s k same

  kept_wrote : (x : State v) (t at : ℕ) (bytes : List ℕ) (j : Places) (fl : Flush v) → SameOutside at (length bytes) x.image j
      → ((s k : ℕ) → IsSlot s → InRange at (length bytes) k → InSlot s k → ⊥) → ((k : ℕ) → InRange at (length bytes) k → NewestOwnsByte v x.newest k → ⊥) → ((k : ℕ) → InRange at (length bytes) k → IsOffFlush v fl k)
      → IsKept v x.trace x.image x.newest fl → IsKept v (Wrote t at bytes x.trace) j x.newest fl
  kept_wrote x t at bytes j Idle same slots newest flush k = steps.put_rests v laws t at bytes x.trace x.image j x.newest k same newest slots
  kept_wrote x t at bytes j (UnderWay f g s) same slots newest flush k = steps.put_flushes v laws t at bytes x.trace x.image j x.newest f g s k same newest slots (λ k r. (flush k r).0) (λ k r. (flush k r).1)

  kept_put : (x : State v) (t at : ℕ) (bytes : List ℕ) (q : Trace) (j : Places) → Tried t at bytes x.trace x.image q j → IsOff v x.newest x.flush at (length bytes)
      → IsKept v x.trace x.image x.newest x.flush → IsKept v q j x.newest x.flush
  kept_put x t at bytes q j (inl (e, same)) off k = subst (λ (z : Trace). IsKept v z j x.newest x.flush) (sym e) (kept_wrote x t at bytes j x.flush same off.slots off.newest_off off.frozen k)
  kept_put x t at bytes q j (inr (e, same)) off k = subst (λ (z : Trace). IsKept v z j x.newest x.flush) (sym e) (kept_same x.trace x.image j x.newest x.flush same k)

  kept_entry : (x : State v) (f : Frozen v) (g : Progress) (e : Entry) (later : List Entry) (t : ℕ) (q : Trace) (j : Places) → Tried t e.at e.bytes x.trace x.image q j
      → IsFlushing v x.trace x.image x.newest f g (Writing (e ∷ later)) → IsFlushing v q j x.newest f g (Writing f.queue)
  kept_entry x f g e later t q j (inl (is, same)) k = subst (λ (z : Trace). IsFlushing v z j x.newest f g (Writing f.queue)) (sym is) (steps.entry_failed v laws t e x.trace x.image j x.newest f g (Writing (e ∷ later)) k (k.queued e (inl refl)) same)
  kept_entry x f g e later t q j (inr (is, same)) k = subst (λ (z : Trace). IsFlushing v z j x.newest f g (Writing f.queue)) (sym is) (steps.set_back v laws x.trace x.image j x.newest f g (Writing (e ∷ later)) k same)

  kept_header : (x : State v) (f : Frozen v) (g : Progress) (t : ℕ) (q : Trace) (j : Places) → Tried t (header_place (slot_of_checkpoint v f.checkpoint)) f.bytes x.trace x.image q j
      → IsFlushing v x.trace x.image x.newest f g Blocks_synced → IsFlushing v q j x.newest f Sent (Writing f.queue)
  kept_header x f g t q j (inl (is, same)) k = subst (λ (z : Trace). IsFlushing v z j x.newest f Sent (Writing f.queue)) (sym is) (steps.header_failed v laws t x.trace x.image j x.newest f g k same)
  kept_header x f g t q j (inr (is, same)) k = subst (λ (z : Trace). IsFlushing v z j x.newest f Sent (Writing f.queue)) (sym is) (steps.header_not_begun v laws x.trace x.image j x.newest f g k same)

  pub keeps : (start : ℕ) (x y : State v) → Does v x y → Survives v start opening x → Survives v start opening y
  keeps start x _ (reads t j le same) sx = goes_on start x (record x { image = j; moment = t }) sx
      (record {
        kept = kept_same x.trace x.image j x.newest x.flush same sx.present.kept;
        times = λ m ge. sx.present.times m (omega arith);
        newest = λ m ge. sx.present.newest m (omega arith);
        forest = sx.present.forest;
        marked = marked_later x.marks x.moment t x.flush le sx.present.marked;
      })
      (record { later = le; trace = λ m lt. refl; landing = λ m n lt l. l; frozen = λ n f h. h })
  keeps start x _ (put t at bytes q j le tried off) sx = goes_on start x (record x { trace = q; image = j; moment = t }) sx
      (record {
        kept = kept_put x t at bytes q j tried off sx.present.kept;
        times = λ m ge. after_try t m at bytes x.trace q x.image j tried ge (sx.present.times m (omega arith));
        newest = λ m ge. sx.present.newest m (omega arith);
        forest = sx.present.forest;
        marked = marked_later x.marks x.moment t x.flush le sx.present.marked;
      })
      (record { later = le; trace = λ m lt. before_try t m at bytes x.trace q x.image j tried lt; landing = λ m n lt l. l; frozen = λ n f h. h })
  keeps start x _ (freeze f idle plan others) sx = goes_on start x (record x { flush = UnderWay f Fresh (Writing f.queue); marks = Froze (v.number f.checkpoint.header) f.checkpoint.forest ∷ x.marks }) sx
      (record {
        kept = steps.freeze v laws x.trace x.image x.newest f (subst (λ (fl : Flush v). IsKept v x.trace x.image x.newest fl) idle sx.present.kept) plan others;
        times = sx.present.times;
        newest = sx.present.newest;
        forest = forest_later v opening x.newest x.marks (Froze (v.number f.checkpoint.header) f.checkpoint.forest ∷ x.marks) (λ n t h. inr h) sx.present.forest;
        marked = (inl (refl, refl), λ e. absurd (cc));
      })
      (record { later = omega arith; trace = λ m lt. refl; landing = λ m n lt l. l; frozen = λ n f h. inr h })
  keeps start x _ (entry_written f g e later t j is le same stands) sx =
      let mk : IsMarked v opening x.marks x.moment (UnderWay f g (Writing (e ∷ later))) = subst (λ (fl : Flush v). IsMarked v opening x.marks x.moment fl) is sx.present.marked in
      goes_on start x (record x { trace = Wrote t e.at e.bytes x.trace; image = j; moment = t; flush = UnderWay f g (Writing later) }) sx
      (record {
        kept = steps.entry_written v laws t e later x.trace x.image j x.newest f g (subst (λ (fl : Flush v). IsKept v x.trace x.image x.newest fl) is sx.present.kept) same stands;
        times = λ m ge. after_write t m e.at e.bytes x.trace ge;
        newest = λ m ge. sx.present.newest m (omega arith);
        forest = sx.present.forest;
        marked = (mk.0, λ s m ge. mk.1 s m (omega arith));
      })
      (record { later = le; trace = λ m lt. before_write t m e.at e.bytes x.trace lt; landing = λ m n lt l. l; frozen = λ n f h. h })
  keeps start x _ (entry_failed f g e later t q j is le tried) sx =
      let mk : IsMarked v opening x.marks x.moment (UnderWay f g (Writing (e ∷ later))) = subst (λ (fl : Flush v). IsMarked v opening x.marks x.moment fl) is sx.present.marked in
      goes_on start x (record x { trace = q; image = j; moment = t; flush = UnderWay f g (Writing f.queue) }) sx
      (record {
        kept = kept_entry x f g e later t q j tried (subst (λ (fl : Flush v). IsKept v x.trace x.image x.newest fl) is sx.present.kept);
        times = λ m ge. after_try t m e.at e.bytes x.trace q x.image j tried ge (sx.present.times m (omega arith));
        newest = λ m ge. sx.present.newest m (omega arith);
        forest = sx.present.forest;
        marked = (mk.0, λ s m ge. mk.1 s m (omega arith));
      })
      (record { later = le; trace = λ m lt. before_try t m e.at e.bytes x.trace q x.image j tried lt; landing = λ m n lt l. l; frozen = λ n f h. h })
  keeps start x _ (blocks_synced f g t j is le same) sx =
      let mk : IsMarked v opening x.marks x.moment (UnderWay f g (Writing [])) = subst (λ (fl : Flush v). IsMarked v opening x.marks x.moment fl) is sx.present.marked in
      goes_on start x (record x { trace = Synced t j x.trace; image = j; moment = t; flush = UnderWay f (progress_after_sync g) Blocks_synced }) sx
      (record {
        kept = steps.blocks_synced v laws t x.trace x.image j x.newest f g (subst (λ (fl : Flush v). IsKept v x.trace x.image x.newest fl) is sx.present.kept) same;
        times = λ m ge. after_sync t m j x.trace ge;
        newest = λ m ge. sx.present.newest m (omega arith);
        forest = sx.present.forest;
        marked = (mk.0, λ s m ge. mk.1 (steps.sent_before v laws g s) m (omega arith));
      })
      (record { later = le; trace = λ m lt. before_sync t m j x.trace lt; landing = λ m n lt l. l; frozen = λ n f h. h })
  keeps start x _ (sync_failed f g s t j is le same) sx =
      let mk : IsMarked v opening x.marks x.moment (UnderWay f g s) = subst (λ (fl : Flush v). IsMarked v opening x.marks x.moment fl) is sx.present.marked in
      goes_on start x (record x { image = j; moment = t; flush = UnderWay f g (Writing f.queue) }) sx
      (record {
        kept = steps.set_back v laws x.trace x.image j x.newest f g s (subst (λ (fl : Flush v). IsKept v x.trace x.image x.newest fl) is sx.present.kept) same;
        times = λ m ge. sx.present.times m (omega arith);
        newest = λ m ge. sx.present.newest m (omega arith);
        forest = sx.present.forest;
        marked = (mk.0, λ s m ge. mk.1 s m (omega arith));
      })
      (record { later = le; trace = λ m lt. refl; landing = λ m n lt l. l; frozen = λ n f h. h })
  keeps start x _ (header_written f g t j is le same stands) sx =
      let mk : IsMarked v opening x.marks x.moment (UnderWay f g Blocks_synced) = subst (λ (fl : Flush v). IsMarked v opening x.marks x.moment fl) is sx.present.marked in
      goes_on start x (record x { trace = Wrote t (header_place (slot_of_checkpoint v f.checkpoint)) f.bytes x.trace; image = j; moment = t; flush = UnderWay f Sent Header_written; marks = Header_out (v.number f.checkpoint.header) t ∷ x.marks }) sx
      (record {
        kept = steps.header_written v laws t x.trace x.image j x.newest f g (subst (λ (fl : Flush v). IsKept v x.trace x.image x.newest fl) is sx.present.kept) same stands;
        times = λ m ge. after_write t m (header_place (slot_of_checkpoint v f.checkpoint)) f.bytes x.trace ge;
        newest = λ m ge. sx.present.newest m (omega arith);
        forest = forest_later v opening x.newest x.marks (Header_out (v.number f.checkpoint.header) t ∷ x.marks) (λ n u h. h) sx.present.forest;
        marked = (mk.0, λ s m ge. inl (refl, ge));
      })
      (record { later = le; trace = λ m lt. before_write t m (header_place (slot_of_checkpoint v f.checkpoint)) f.bytes x.trace lt; landing = λ m n lt l. out_more x.marks (v.number f.checkpoint.header) t m n l; frozen = λ n f h. h })
    where
      out_more : (marks : List (Mark v.Forest)) (k t m n : ℕ) → IsLanding (number_of v opening) marks m n → IsLanding (number_of v opening) (Header_out k t ∷ marks) m n
      out_more marks k t m n (inl e) = inl e
      out_more marks k t m n (inr (e, o)) = inr (e, inr o)
  keeps start x _ (header_failed f g t q j is le tried) sx =
      let mk : IsMarked v opening x.marks x.moment (UnderWay f g Blocks_synced) = subst (λ (fl : Flush v). IsMarked v opening x.marks x.moment fl) is sx.present.marked in
      goes_on start x (record x { trace = q; image = j; moment = t; flush = UnderWay f Sent (Writing f.queue); marks = Header_out (v.number f.checkpoint.header) t ∷ x.marks }) sx
      (record {
        kept = kept_header x f g t q j tried (subst (λ (fl : Flush v). IsKept v x.trace x.image x.newest fl) is sx.present.kept);
        times = λ m ge. after_try t m (header_place (slot_of_checkpoint v f.checkpoint)) f.bytes x.trace q x.image j tried ge (sx.present.times m (omega arith));
        newest = λ m ge. sx.present.newest m (omega arith);
        forest = forest_later v opening x.newest x.marks (Header_out (v.number f.checkpoint.header) t ∷ x.marks) (λ n u h. h) sx.present.forest;
        marked = (mk.0, λ s m ge. inl (refl, ge));
      })
      (record { later = le; trace = λ m lt. before_try t m (header_place (slot_of_checkpoint v f.checkpoint)) f.bytes x.trace q x.image j tried lt; landing = λ m n lt l. out_more x.marks (v.number f.checkpoint.header) t m n l; frozen = λ n f h. h })
    where
      out_more : (marks : List (Mark v.Forest)) (k t m n : ℕ) → IsLanding (number_of v opening) marks m n → IsLanding (number_of v opening) (Header_out k t ∷ marks) m n
      out_more marks k t m n (inl e) = inl e
      out_more marks k t m n (inr (e, o)) = inr (e, inr o)
  keeps start x _ (header_done f g t j is le same) sx =
      let mk : IsMarked v opening x.marks x.moment (UnderWay f g Header_written) = subst (λ (fl : Flush v). IsMarked v opening x.marks x.moment fl) is sx.present.marked in
      goes_on start x (record x { trace = Synced t j x.trace; image = j; moment = t; newest = Completed f.checkpoint; flush = Idle; marks = Header_done (v.number f.checkpoint.header) t ∷ x.marks }) sx
      (record {
        kept = steps.header_done v laws t x.trace x.image j x.newest f g (subst (λ (fl : Flush v). IsKept v x.trace x.image x.newest fl) is sx.present.kept) same;
        times = λ m ge. after_sync t m j x.trace ge;
        newest = λ m ge. after_done (number_of v opening) (v.number f.checkpoint.header) t m x.marks ge;
        forest = mk.0;
        marked = tt;
      })
      (record { later = le; trace = λ m lt. before_sync t m j x.trace lt; landing = λ m n lt l. done_more (v.number f.checkpoint.header) t m n lt l; frozen = λ n f h. h })
    where
      done_more : (k t m n : ℕ) → m < t → IsLanding (number_of v opening) x.marks m n → IsLanding (number_of v opening) (Header_done k t ∷ x.marks) m n
      done_more k t m n lt (inl e) = inl (e ∙ sym (before_done (number_of v opening) k t m x.marks lt))
      done_more k t m n lt (inr (e, o)) = inr (e ∙ ap suc (sym (before_done (number_of v opening) k t m x.marks lt)), o)

  pub run_keeps : (start : ℕ) (x y : State v) → Run v x y → Survives v start opening x → Survives v start opening y
  run_keeps start x _ none sx = sx
  run_keeps start x _ (more y z run does) sx = keeps start y z does (run_keeps start x y run sx)

  opened_rests : (o : Newest v) (image : Places) → IsOpening v o image → IsAtRest v (Opened (base_of v o)) image o
  opened_rests (Blank first) image o = record {
    guards = tt;
    older = λ s b h lt appeared at. absurd (o.sound s h lt (laws.header_local s h b (slot_bytes first s) (λ k below. sym (appeared k below)) at));
  }
  opened_rests (Completed r) image o = record {
    guards = record {
      checkpoint = o.sound.0;
      header = o.sound.1.here;
      blocks = λ k h. refl;
      seen = λ k h. o.read k;
      unchanged = λ k h c. c;
    };
    older = λ s b h lt appeared at. o.sound.1.greatest s h lt (laws.header_local s h b (slot_bytes r.view s) (λ k below. sym (appeared k below)) at);
  }

  opened_forest : (o : Newest v) → HasFrozenForest v o [] o
  opened_forest (Blank first) = tt
  opened_forest (Completed r) = (refl, refl)

  opened_present : (image : Places) (start : ℕ) → IsOpening v opening image → Present v opening (opened v opening image start)
  opened_present image start o = record {
    kept = opened_rests opening image o;
    times = λ m ge. refl;
    newest = λ m ge. refl;
    forest = opened_forest opening;
    marked = tt;
  }

  pub opened_survives : (image : Places) (start : ℕ) → IsOpening v opening image → Survives v start opening (opened v opening image start)
  opened_survives image start o = record {
    present = opened_present image start o;
    cuts = λ m i ge le left. mounts_now (opened v opening image start) (opened_present image start o) m i ge left;
  }

pub crash_law : (v : Format) → CrashLaw v
crash_law v laws opening image start x o run = run_keeps v laws opening start (opened v opening image start) x run (opened_survives v laws opening image start o)
