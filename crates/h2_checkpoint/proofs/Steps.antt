-- The steps of a flush, and the writes beside it.
use Rattle.std.proofs.Common.{◌≡◌, ◌≢◌, ◌⊎◌, ◌<◌, ◌≤◌, ℕ, suc, ◌+◌, List, [], ◌∷◌, length, refl, sym, ap, ◌∙◌, subst, inl, inr, arith}
use Rattle.h2_num.specs.Places.{Holds, InRange, Places, Same, SameOutside, places}
use Rattle.h2_num.specs.PlaceLaws.{holds_too, in_range, outside, same_held}
use Rattle.h2_disk.specs.Trace.{Appeared, Synced, Trace, Wrote, durable}
use Rattle.h2_checkpoint.specs.Checkpoint.{Blank, Blocks_synced, Checkpoint, Completed, Fresh, Frozen, Header_written, IsAtRest, IsFlushing, IsGuarded, IsGuardedCheckpoint, IsHeaderUnderWay, IsPlanned, Newest, NewestOwnsByte, OwnsByte, Progress, Secured, Sent, Stage, Writing, entries_left, number_of, progress_after_sync, slot_of_checkpoint}
use Rattle.h2_checkpoint.specs.Format.{Format, IsLawful}
use Rattle.h2_checkpoint.specs.Queue.{Entry, InEntries, IsAmong}
use Rattle.h2_geom.specs.Places.{header_bytes, header_place}
use Rattle.h2_checkpoint.specs.Slots.{InSlot, IsSlot, slot_bytes}
use Rattle.h2_checkpoint.proofs.Parts.{slots_apart, slot_below, next_slot_apart, in_slot}

module _ (v : Format) (laws : IsLawful v) where
  guards_wrote : (t at : ℕ) (bytes : List ℕ) (p : Trace) (i j : Places) (d : Checkpoint v) → IsGuardedCheckpoint v p i d → SameOutside at (length bytes) i j
      → ((k : ℕ) → InRange at (length bytes) k → OwnsByte v d k ⊎ InSlot (slot_of_checkpoint v d) k → ⊥) → IsGuardedCheckpoint v (Wrote t at bytes p) j d
  guards_wrote t at bytes p i j d g same off = record {
    checkpoint = g.checkpoint;
    header = g.header;
    blocks = g.blocks;
    seen = λ k h. outside at (length bytes) i j same k (λ r. off k r h) ∙ g.seen k h;
    unchanged = λ k h c. elim c [ inl x ↦ off k x.0 h | inr c ↦ g.unchanged k h c ];
  }

  guarded_wrote : (t at : ℕ) (bytes : List ℕ) (p : Trace) (i j : Places) (d : Newest v) → IsGuarded v p i d → SameOutside at (length bytes) i j
      → ((k : ℕ) → InRange at (length bytes) k → NewestOwnsByte v d k → ⊥) → ((s k : ℕ) → IsSlot s → InRange at (length bytes) k → InSlot s k → ⊥) → IsGuarded v (Wrote t at bytes p) j d
  guarded_wrote t at bytes p i j (Blank first) g same off off_slots = tt
  guarded_wrote t at bytes p i j (Completed d) g same off off_slots = guards_wrote t at bytes p i j d g same
      (λ k r h. elim h [ inl o ↦ off k r o | inr s ↦ off_slots (slot_of_checkpoint v d) k (slot_below (v.number d.header)) r s ])

  -- a write off the slots brings no header
  appeared_before : (t at : ℕ) (bytes : List ℕ) (p : Trace) → ((s k : ℕ) → IsSlot s → InRange at (length bytes) k → InSlot s k → ⊥)
      → (s : ℕ) (b : Places) → IsSlot s → Appeared (header_place s) header_bytes (Wrote t at bytes p) b → Appeared (header_place s) header_bytes p b
  appeared_before t at bytes p off s b lt (inr c) = c
  appeared_before t at bytes p off s b lt (inl may) = absurd (off s may.byte lt may.wrote may.met)

  pub put_rests : (t at : ℕ) (bytes : List ℕ) (p : Trace) (i j : Places) (d : Newest v) → IsAtRest v p i d → SameOutside at (length bytes) i j
      → ((k : ℕ) → InRange at (length bytes) k → NewestOwnsByte v d k → ⊥) → ((s k : ℕ) → IsSlot s → InRange at (length bytes) k → InSlot s k → ⊥)
      → IsAtRest v (Wrote t at bytes p) j d
  put_rests t at bytes p i j d x same off off_slots = record {
    guards = guarded_wrote t at bytes p i j d x.guards same off off_slots;
    older = λ s b h lt c. x.older s b h lt (appeared_before t at bytes p off_slots s b lt c);
  }

  pub freeze : (p : Trace) (i : Places) (d : Newest v) (f : Frozen v) → IsAtRest v p i d → IsPlanned v d f
      → ((k : ℕ) → OwnsByte v f.checkpoint k → InEntries f.queue k ⊎ (i k ≡ f.checkpoint.view k)) → IsFlushing v p i d f Fresh (Writing f.queue)
  freeze p i d f x plan others = record {
    guards = x.guards;
    plan = plan;
    older = λ s b h lt c at. inl (x.older s b h lt c at);
    queued = λ e m. m;
    written = λ e m. inl m;
    others = others;
    blocks_durable = λ ne. absurd (ne refl);
    unchanged = λ ne. absurd (ne refl);
    secured = λ e. absurd (cc);
    sent = λ e. absurd (cc);
  }

  pub put_flushes : (t at : ℕ) (bytes : List ℕ) (p : Trace) (i j : Places) (d : Newest v) (f : Frozen v) (g : Progress) (s : Stage) → IsFlushing v p i d f g s → SameOutside at (length bytes) i j
      → ((k : ℕ) → InRange at (length bytes) k → NewestOwnsByte v d k → ⊥) → ((s k : ℕ) → IsSlot s → InRange at (length bytes) k → InSlot s k → ⊥)
      → ((k : ℕ) → InRange at (length bytes) k → OwnsByte v f.checkpoint k → ⊥) → ((k : ℕ) → InRange at (length bytes) k → InEntries f.queue k → ⊥)
      → IsFlushing v (Wrote t at bytes p) j d f g s
  put_flushes t at bytes p i j d f g s x same off off_slots off_frozen off_queue = record {
    guards = guarded_wrote t at bytes p i j d x.guards same off off_slots;
    plan = x.plan;
    older = λ s b h lt c. x.older s b h lt (appeared_before t at bytes p off_slots s b lt c);
    queued = x.queued;
    written = λ e m. elim (x.written e m) [
      | inl left ↦ inl left
      | inr h ↦ inr (holds_too e.at e.bytes i j h (λ k r. outside at (length bytes) i j same k (λ q. off_queue k q (e, m, r))))
    ];
    others = λ k o. elim (x.others k o) [ inl q ↦ inl q | inr e ↦ inr (outside at (length bytes) i j same k (λ r. off_frozen k r o) ∙ e) ];
    blocks_durable = x.blocks_durable;
    unchanged = λ ne k o c. elim c [ inl y ↦ off_frozen k y.0 o | inr c ↦ x.unchanged ne k o c ];
    secured = x.secured;
    sent = λ e. (
      (x.sent e).0,
      holds_too (header_place (slot_of_checkpoint v f.checkpoint)) f.bytes i j (x.sent e).1
          (λ k r. outside at (length bytes) i j same k (λ q. off_slots (slot_of_checkpoint v f.checkpoint) k (slot_below (v.number f.checkpoint.header)) q
          (let long : length f.bytes ≡ header_bytes = x.plan.long in let lt : k < header_place (slot_of_checkpoint v f.checkpoint) + length f.bytes = r.1 in (r.0, omega arith)))),
    );
  }

  -- an entry of the queue is written, well or not; if not, the queue starts anew
  pub entry_failed : (t : ℕ) (e : Entry) (p : Trace) (i j : Places) (d : Newest v) (f : Frozen v) (g : Progress) (s : Stage) → IsFlushing v p i d f g s → IsAmong f.queue e
      → SameOutside e.at (length e.bytes) i j → IsFlushing v (Wrote t e.at e.bytes p) j d f g (Writing f.queue)
  entry_failed t e p i j d f g s x m same = record {
    guards = guarded_wrote t e.at e.bytes p i j d x.guards same (λ k r o. x.plan.queue_off k (e, m, r) o) (λ s k lt r q. x.plan.off_slots s k lt (e, m, r) q);
    plan = x.plan;
    older = λ s b h lt c. x.older s b h lt (appeared_before t e.at e.bytes p (λ s k lt r. x.plan.off_slots s k lt (e, m, r)) s b lt c);
    queued = λ e m. m;
    written = λ e m. inl m;
    others = λ k o. elim (x.others k o) [
      | inl q ↦ inl q
      | inr now ↦ elim (in_range e.at (length e.bytes) k) [
        | inl r ↦ inl (e, m, r)
        | inr out ↦ inr (outside e.at (length e.bytes) i j same k out ∙ now)
      ]
    ];
    blocks_durable = x.blocks_durable;
    unchanged = λ ne k o c. elim c [
      | inl y ↦ y.1 (λ n lt. x.blocks_durable ne (e.at + n) (inr (e, m, (omega arith, omega arith))) ∙ x.plan.queue e m n lt)
      | inr c ↦ x.unchanged ne k o c
    ];
    secured = λ e. absurd (cc);
    sent = λ e. absurd (cc);
  }

  pub entry_written : (t : ℕ) (e : Entry) (rest : List Entry) (p : Trace) (i j : Places) (d : Newest v) (f : Frozen v) (g : Progress) → IsFlushing v p i d f g (Writing (e ∷ rest))
      → SameOutside e.at (length e.bytes) i j → Holds e.at e.bytes j → IsFlushing v (Wrote t e.at e.bytes p) j d f g (Writing rest)
  entry_written t e rest p i j d f g x same stands =
      let m : IsAmong f.queue e = x.queued e (inl refl) in
      let y = entry_failed t e p i j d f g (Writing (e ∷ rest)) x m same in
      record {
        guards = y.guards;
        plan = y.plan;
        older = y.older;
        queued = λ e m. x.queued e (inr m);
        written = λ a am. written a am (x.written a am);
        others = y.others;
        blocks_durable = y.blocks_durable;
        unchanged = y.unchanged;
        secured = λ e. absurd (cc);
        sent = λ e. absurd (cc);
      }
    where
      written : (a : Entry) → IsAmong f.queue a → IsAmong (e ∷ rest) a ⊎ Holds a.at a.bytes i → IsAmong rest a ⊎ Holds a.at a.bytes j
      written a am (inl (inl is)) = inr (subst (λ (z : Entry). Holds z.at z.bytes j) (sym is) stands)
      written a am (inl (inr later)) = inl later
      written a am (inr h) = inr (λ n lt. elim (in_range e.at (length e.bytes) (a.at + n)) [
        | inl r ↦ same_held e.at e.bytes j f.checkpoint.view stands (x.plan.queue e (x.queued e (inl refl))) (a.at + n) r ∙ x.plan.queue a am n lt
        | inr out ↦ outside e.at (length e.bytes) i j same (a.at + n) out ∙ h n lt
      ])

  guarded_same : (p : Trace) (i j : Places) (d : Newest v) → IsGuarded v p i d → Same i j → IsGuarded v p j d
  guarded_same p i j (Blank first) g same = tt
  guarded_same p i j (Completed d) g same = record {
    checkpoint = g.checkpoint;
    header = g.header;
    blocks = g.blocks;
    seen = λ k h. same k ∙ g.seen k h;
    unchanged = g.unchanged;
  }

  -- a sync failed
  pub set_back : (p : Trace) (i j : Places) (d : Newest v) (f : Frozen v) (g : Progress) (s : Stage) → IsFlushing v p i d f g s → Same i j → IsFlushing v p j d f g (Writing f.queue)
  set_back p i j d f g s x same = record {
    guards = guarded_same p i j d x.guards same;
    plan = x.plan;
    older = x.older;
    queued = λ e m. m;
    written = λ e m. inl m;
    others = λ k o. elim (x.others k o) [ inl q ↦ inl q | inr now ↦ inr (same k ∙ now) ];
    blocks_durable = x.blocks_durable;
    unchanged = x.unchanged;
    secured = λ e. absurd (cc);
    sent = λ e. absurd (cc);
  }

  guards_synced : (t : ℕ) (p : Trace) (i j : Places) (d : Checkpoint v) → IsGuardedCheckpoint v p i d → Same i j → IsGuardedCheckpoint v (Synced t j p) j d
  guards_synced t p i j d g same = record {
    checkpoint = g.checkpoint;
    header = laws.header_local (slot_of_checkpoint v d) d.header (slot_bytes (durable p) (slot_of_checkpoint v d)) (slot_bytes j (slot_of_checkpoint v d))
        (λ k lt. same (header_place (slot_of_checkpoint v d) + k) ∙ g.seen (header_place (slot_of_checkpoint v d) + k) (inr (in_slot (slot_of_checkpoint v d) k lt))) g.header;
    blocks = λ k o. same k ∙ g.seen k (inl o) ∙ g.blocks k o;
    seen = λ k h. refl;
    unchanged = λ k h c. c;
  }

  guarded_synced : (t : ℕ) (p : Trace) (i j : Places) (d : Newest v) → IsGuarded v p i d → Same i j → IsGuarded v (Synced t j p) j d
  guarded_synced t p i j (Blank first) g same = tt
  guarded_synced t p i j (Completed d) g same = guards_synced t p i j d g same

  -- once the whole queue is written, the frozen image stands
  pub view_stands : (p : Trace) (i : Places) (d : Newest v) (f : Frozen v) (g : Progress) (s : Stage) → IsFlushing v p i d f g s → ((e : Entry) → IsAmong (entries_left s) e → ⊥)
      → (k : ℕ) → OwnsByte v f.checkpoint k ⊎ InEntries f.queue k → i k ≡ f.checkpoint.view k
  view_stands p i d f g s x none k h = elim h [
    | inl o ↦ elim (x.others k o) [ inl q ↦ in_queue q | inr e ↦ e ]
    | inr q ↦ in_queue q
  ]
    where
      standing : (e : Entry) → IsAmong (entries_left s) e ⊎ Holds e.at e.bytes i → Holds e.at e.bytes i
      standing e (inl m) = absurd (none e m)
      standing e (inr h) = h

      in_queue : InEntries f.queue k → i k ≡ f.checkpoint.view k
      in_queue (e, m, r) = same_held e.at e.bytes i f.checkpoint.view (standing e (x.written e m)) (x.plan.queue e m) k r

  pub blocks_synced : (t : ℕ) (p : Trace) (i j : Places) (d : Newest v) (f : Frozen v) (g : Progress) → IsFlushing v p i d f g (Writing []) → Same i j
      → IsFlushing v (Synced t j p) j d f (progress_after_sync g) Blocks_synced
  blocks_synced t p i j d f g x same = record {
    guards = guarded_synced t p i j d x.guards same;
    plan = x.plan;
    older = λ s b h lt c at. elim (x.older s b h lt c at) [ inl le ↦ inl le | inr u ↦ inr (ap progress_after_sync u.0, u.1) ];
    queued = λ e m. absurd m;
    written = λ e m. inr (holds_too e.at e.bytes f.checkpoint.view j (x.plan.queue e m) (λ k r. same k ∙ stands k (inr (e, m, r))));
    others = λ k o. inr (same k ∙ stands k (inl o));
    blocks_durable = λ ne k h. same k ∙ stands k h;
    unchanged = λ ne k o c. c;
    secured = λ e. not_fresh g;
    sent = λ e. absurd (cc);
  }
    where
      stands : (k : ℕ) → OwnsByte v f.checkpoint k ⊎ InEntries f.queue k → i k ≡ f.checkpoint.view k
      stands k h = view_stands p i d f g (Writing []) x (λ e m. m) k h

      not_fresh : (g : Progress) → progress_after_sync g ≢ Fresh
      not_fresh Fresh e = cc
      not_fresh Secured e = cc
      not_fresh Sent e = cc

  -- the header's write, well or not; if not, the queue starts anew
  pub header_failed : (t : ℕ) (p : Trace) (i j : Places) (d : Newest v) (f : Frozen v) (g : Progress) → IsFlushing v p i d f g Blocks_synced
      → SameOutside (header_place (slot_of_checkpoint v f.checkpoint)) (length f.bytes) i j → IsFlushing v (Wrote t (header_place (slot_of_checkpoint v f.checkpoint)) f.bytes p) j d f Sent (Writing f.queue)
  header_failed t p i j d f g x same = record {
    guards = guarded d x.guards x.plan.next;
    plan = x.plan;
    older = λ s b h lt c at. older s b h lt at c;
    queued = λ e m. m;
    written = λ e m. inl m;
    others = λ k o. inr (outside place (length f.bytes) i j same k (λ r. x.plan.checkpoint.off_slots (slot_of_checkpoint v f.checkpoint) k (slot_below (v.number f.checkpoint.header)) o (written_in k r))
        ∙ view_stands p i d f g Blocks_synced x (λ e m. m) k (inl o));
    blocks_durable = λ ne k h. x.blocks_durable (x.secured refl) k h;
    unchanged = λ ne k o c. elim c [
      | inl y ↦ x.plan.checkpoint.off_slots (slot_of_checkpoint v f.checkpoint) k (slot_below (v.number f.checkpoint.header)) o (written_in k y.0)
      | inr c ↦ x.unchanged (x.secured refl) k o c
    ];
    secured = λ e. absurd (cc);
    sent = λ e. absurd (cc);
  }
    where
      place : ℕ
      place = header_place (slot_of_checkpoint v f.checkpoint)

      written_in : (k : ℕ) → InRange place (length f.bytes) k → InSlot (slot_of_checkpoint v f.checkpoint) k
      written_in k r = let long : length f.bytes ≡ header_bytes = x.plan.long in let lt : k < place + length f.bytes = r.1 in (r.0, omega arith)

      guarded : (d : Newest v) → IsGuarded v p i d → v.number f.checkpoint.header ≡ suc (number_of v d) → IsGuarded v (Wrote t place f.bytes p) j d
      guarded (Blank first) g next = tt
      guarded (Completed d) g next = guards_wrote t place f.bytes p i j d g same (λ k r h. elim h [
        | inl o ↦ g.checkpoint.off_slots (slot_of_checkpoint v f.checkpoint) k (slot_below (v.number f.checkpoint.header)) o (written_in k r)
        | inr s ↦ next_slot_apart (v.number d.header) (v.number f.checkpoint.header) (laws.header_counts (slot_of_checkpoint v d) d.header (slot_bytes (durable p) (slot_of_checkpoint v d)) g.header) next
            (slots_apart (slot_of_checkpoint v f.checkpoint) (slot_of_checkpoint v d) k (written_in k r) s)
      ])

      older : (s : ℕ) (b : Places) (h : v.Header) → IsSlot s → v.HeaderAt s b h → Appeared (header_place s) header_bytes (Wrote t place f.bytes p) b
          → (v.number h ≤ number_of v d) ⊎ ((Sent ≡ Sent) × IsHeaderUnderWay v f s b)
      older s b h lt at (inl may) =
          let here : s ≡ slot_of_checkpoint v f.checkpoint = slots_apart s (slot_of_checkpoint v f.checkpoint) may.byte may.met (written_in may.byte may.wrote) in
          inr (refl, record { slot = here; bytes = may.whole (ap header_place (sym here)) x.plan.long })
      older s b h lt at (inr c) = elim (x.older s b h lt c at) [ inl le ↦ inl le | inr u ↦ inr (refl, u.1) ]

  pub header_written : (t : ℕ) (p : Trace) (i j : Places) (d : Newest v) (f : Frozen v) (g : Progress) → IsFlushing v p i d f g Blocks_synced
      → SameOutside (header_place (slot_of_checkpoint v f.checkpoint)) (length f.bytes) i j → Holds (header_place (slot_of_checkpoint v f.checkpoint)) f.bytes j
      → IsFlushing v (Wrote t (header_place (slot_of_checkpoint v f.checkpoint)) f.bytes p) j d f Sent Header_written
  header_written t p i j d f g x same stands =
      let y = header_failed t p i j d f g x same in
      record {
        guards = y.guards;
        plan = y.plan;
        older = y.older;
        queued = λ e m. absurd m;
        written = λ e m. inr (holds_too e.at e.bytes f.checkpoint.view j (x.plan.queue e m) (λ k r.
            outside (header_place (slot_of_checkpoint v f.checkpoint)) (length f.bytes) i j same k (λ q. x.plan.off_slots (slot_of_checkpoint v f.checkpoint) k (slot_below (v.number f.checkpoint.header)) (e, m, r)
            (let long : length f.bytes ≡ header_bytes = x.plan.long in let lt : k < header_place (slot_of_checkpoint v f.checkpoint) + length f.bytes = q.1 in (q.0, omega arith)))
            ∙ view_stands p i d f g Blocks_synced x (λ e m. m) k (inr (e, m, r))));
        others = y.others;
        blocks_durable = y.blocks_durable;
        unchanged = y.unchanged;
        secured = λ e. absurd (cc);
        sent = λ e. (refl, stands);
      }

  -- the sync after the header: the frozen checkpoint is the completed one
  pub header_done : (t : ℕ) (p : Trace) (i j : Places) (d : Newest v) (f : Frozen v) (g : Progress) → IsFlushing v p i d f g Header_written → Same i j → IsAtRest v (Synced t j p) j (Completed f.checkpoint)
  header_done t p i j d f g x same = record {
    guards = record {
      checkpoint = x.plan.checkpoint;
      header = laws.header_local (slot_of_checkpoint v f.checkpoint) f.checkpoint.header (places f.bytes) (slot_bytes j (slot_of_checkpoint v f.checkpoint))
          (λ k lt. same (header_place (slot_of_checkpoint v f.checkpoint) + k) ∙ (x.sent refl).1 k (let long : length f.bytes ≡ header_bytes = x.plan.long in omega arith)) x.plan.spelled;
      blocks = λ k o. same k ∙ view_stands p i d f g Header_written x (λ e m. m) k (inl o);
      seen = λ k h. refl;
      unchanged = λ k h c. c;
    };
    older = λ s b h lt c at. older s b h at (x.older s b h lt c at);
  }
    where
      older : (s : ℕ) (b : Places) (h : v.Header) → v.HeaderAt s b h → (v.number h ≤ number_of v d) ⊎ ((g ≡ Sent) × IsHeaderUnderWay v f s b) → v.number h ≤ v.number f.checkpoint.header
      older s b h at (inl le) = let next : v.number f.checkpoint.header ≡ suc (number_of v d) = x.plan.next in omega arith
      older s b h at (inr (e, u)) =
          let here : v.HeaderAt s b f.checkpoint.header = subst (λ (z : ℕ). v.HeaderAt z b f.checkpoint.header) (sym u.slot)
          (laws.header_local (slot_of_checkpoint v f.checkpoint) f.checkpoint.header (places f.bytes) b u.bytes x.plan.spelled) in
          let same : v.number h ≡ v.number f.checkpoint.header = laws.one_number s h f.checkpoint.header b at here in
          omega arith

  -- a call that leaves the image as it was
  pub flushes_same : (p : Trace) (i j : Places) (d : Newest v) (f : Frozen v) (g : Progress) (s : Stage) → IsFlushing v p i d f g s → Same i j → IsFlushing v p j d f g s
  flushes_same p i j d f g s x same =
      let y = set_back p i j d f g s x same in
      record {
        guards = y.guards;
        plan = y.plan;
        older = y.older;
        queued = x.queued;
        written = λ e m. elim (x.written e m) [ inl left ↦ inl left | inr h ↦ inr (λ k lt. same (e.at + k) ∙ h k lt) ];
        others = y.others;
        blocks_durable = y.blocks_durable;
        unchanged = y.unchanged;
        secured = x.secured;
        sent = λ e. ((x.sent e).0, λ k lt. same (header_place (slot_of_checkpoint v f.checkpoint) + k) ∙ (x.sent e).1 k lt);
      }

  pub rests_same : (p : Trace) (i j : Places) (d : Newest v) → IsAtRest v p i d → Same i j → IsAtRest v p j d
  rests_same p i j d x same = record {
    guards = guarded_same p i j d x.guards same;
    older = x.older;
  }

  pub sent_before : (g : Progress) → progress_after_sync g ≡ Sent → g ≡ Sent
  sent_before Fresh e = cc
  sent_before Secured e = cc
  sent_before Sent e = refl

  -- the header's write did not begin
  pub header_not_begun : (p : Trace) (i j : Places) (d : Newest v) (f : Frozen v) (g : Progress) → IsFlushing v p i d f g Blocks_synced → Same i j → IsFlushing v p j d f Sent (Writing f.queue)
  header_not_begun p i j d f g x same =
      let y = set_back p i j d f g Blocks_synced x same in
      record {
        guards = y.guards;
        plan = y.plan;
        older = λ s b h lt c at. elim (x.older s b h lt c at) [ inl le ↦ inl le | inr u ↦ inr (refl, u.1) ];
        queued = y.queued;
        written = y.written;
        others = y.others;
        blocks_durable = λ ne k h. x.blocks_durable (x.secured refl) k h;
        unchanged = λ ne k o c. x.unchanged (x.secured refl) k o c;
        secured = λ e. absurd (cc);
        sent = λ e. absurd (cc);
      }
