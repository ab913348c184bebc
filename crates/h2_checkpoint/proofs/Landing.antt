-- What a cut leaves: the newest completed header, or the one under way.
use Rattle.std.proofs.Common.{◌≡◌, ◌≢◌, ◌⊎◌, ◌≤◌, ℕ, suc, ◌+◌, List, refl, sym, ◌∙◌, subst, inl, inr, arith}
use Rattle.h2_num.specs.Places.{Places, SameBelow, from_place, places}
use Rattle.h2_num.specs.PlaceLaws.{same_below}
use Rattle.h2_disk.specs.Trace.{Trace, durable}
use Rattle.h2_checkpoint.specs.Checkpoint.{Blank, Checkpoint, Completed, Fresh, Frozen, HasOldHeaders, IsAtRest, IsFlushing, IsGuarded, IsGuardedCheckpoint, IsHeaderUnderWay, Lands, LandsOn, Newest, Progress, Secured, Sent, Stage, number_of, slot_of_checkpoint}
use Rattle.h2_checkpoint.specs.Format.{Format, IsLawful, Reach, SameReached, by_child, by_root}
use Rattle.h2_geom.specs.Places.{header_bytes, header_place}
use Rattle.h2_checkpoint.specs.Slots.{IsSlot, slot_bytes}
use Rattle.h2_checkpoint.proofs.Parts.{IsIntact, in_slot}

module _ (v : Format) (laws : IsLawful v) where
  -- where two images agree on what the first one reaches, they reach the same
  pub reaches_too : (a b : Places) (roots : List v.Ref) → SameReached v a roots b → (r : v.Ref) → Reach v a roots r → Reach v b roots r
  reaches_too a b roots same _ (by_root r m) = by_root r m
  reaches_too a b roots same _ (by_child r s path child) = by_child r s (reaches_too a b roots same r path)
      (laws.child_local r s (from_place a (v.place r)) (from_place b (v.place r)) (λ k lt. same (v.place r + k) (r, path, (omega arith, omega arith))) child)

  pub reaches_back : (a b : Places) (roots : List v.Ref) → SameReached v a roots b → (r : v.Ref) → Reach v b roots r → Reach v a roots r
  reaches_back a b roots same _ (by_root r m) = by_root r m
  reaches_back a b roots same _ (by_child r s path child) = step (reaches_back a b roots same r path)
    where
      step : Reach v a roots r → Reach v a roots s
      step before = by_child r s before
          (laws.child_local r s (from_place b (v.place r)) (from_place a (v.place r)) (λ k lt. sym (same (v.place r + k) (r, before, (omega arith, omega arith)))) child)

  -- the completed header is there
  completed_there : (p : Trace) (i image : Places) (d : Checkpoint v) → IsGuardedCheckpoint v p i d → IsIntact p image → ((s : ℕ) (h : v.Header) → IsSlot s → v.HeaderAt s (slot_bytes image s) h → v.number h ≤ v.number d.header) → Lands v d image
  completed_there p i image d g keeps older = record {
    newest = record {
      here = laws.header_local (slot_of_checkpoint v d) d.header (slot_bytes (durable p) (slot_of_checkpoint v d)) (slot_bytes image (slot_of_checkpoint v d))
          (λ k lt. keeps (header_place (slot_of_checkpoint v d) + k) (g.unchanged (header_place (slot_of_checkpoint v d) + k) (inr (in_slot (slot_of_checkpoint v d) k lt)))) g.header;
      greatest = λ s h lt at. older s h lt at;
    };
    stands = laws.stands_local d.header d.forest d.view image same g.checkpoint.stands;
    same = same;
  }
    where
      same : SameReached v d.view (v.roots d.header) image
      same k o = keeps k (g.unchanged k (inl o)) ∙ g.blocks k o

  done_there : (p : Trace) (i image : Places) (d : Newest v) → IsGuarded v p i d → IsIntact p image → ((s : ℕ) (h : v.Header) → IsSlot s → v.HeaderAt s (slot_bytes image s) h → v.number h ≤ number_of v d) → LandsOn v d image
  done_there p i image (Blank first) g keeps older = λ s h lt at.
      let le : v.number h ≤ 0 = older s h lt at in
      let counts : 1 ≤ v.number h = laws.header_counts s h (slot_bytes image s) at in
      absurd (omega arith)
  done_there p i image (Completed d) g keeps older = completed_there p i image d g keeps older

  pub lands_at_rest : (p : Trace) (i image : Places) (d : Newest v) → IsAtRest v p i d → HasOldHeaders v p image → IsIntact p image → LandsOn v d image
  lands_at_rest p i image d x old keeps = done_there p i image d x.guards keeps (λ s h lt at. x.older s (slot_bytes image s) h lt (old s h lt at) at)

  -- the header under way is there, whole
  pub sent_there : (p : Trace) (i image : Places) (d : Newest v) (f : Frozen v) (g : Progress) (s : Stage) → IsFlushing v p i d f g s → g ≡ Sent → HasOldHeaders v p image → IsIntact p image
      → SameBelow header_bytes (places f.bytes) (slot_bytes image (slot_of_checkpoint v f.checkpoint)) → Lands v f.checkpoint image
  sent_there p i image d f g s x is_sent old keeps whole = record {
    newest = record {
      here = laws.header_local (slot_of_checkpoint v f.checkpoint) f.checkpoint.header (places f.bytes) (slot_bytes image (slot_of_checkpoint v f.checkpoint)) whole x.plan.spelled;
      greatest = λ t h lt at. greatest t h at (x.older t (slot_bytes image t) h lt (old t h lt at) at);
    };
    stands = laws.stands_local f.checkpoint.header f.checkpoint.forest f.checkpoint.view image same x.plan.checkpoint.stands;
    same = same;
  }
    where
      not_fresh : g ≢ Fresh
      not_fresh e = cc

      same : SameReached v f.checkpoint.view (v.roots f.checkpoint.header) image
      same k o = keeps k (x.unchanged not_fresh k o) ∙ x.blocks_durable not_fresh k (inl o)

      greatest : (t : ℕ) (h : v.Header) → v.HeaderAt t (slot_bytes image t) h → (v.number h ≤ number_of v d) ⊎ ((g ≡ Sent) × IsHeaderUnderWay v f t (slot_bytes image t)) → v.number h ≤ v.number f.checkpoint.header
      greatest t h at (inl le) = let next : v.number f.checkpoint.header ≡ suc (number_of v d) = x.plan.next in omega arith
      greatest t h at (inr (e, u)) =
          let here : v.HeaderAt t (slot_bytes image t) f.checkpoint.header = subst (λ (z : ℕ). v.HeaderAt z (slot_bytes image t) f.checkpoint.header) (sym u.slot)
          (laws.header_local (slot_of_checkpoint v f.checkpoint) f.checkpoint.header (places f.bytes) (slot_bytes image t) u.bytes x.plan.spelled) in
          let same : v.number h ≡ v.number f.checkpoint.header = laws.one_number t h f.checkpoint.header (slot_bytes image t) at here in
          omega arith

  pub lands_in_flush : (p : Trace) (i image : Places) (d : Newest v) (f : Frozen v) (g : Progress) (s : Stage) → IsFlushing v p i d f g s → HasOldHeaders v p image → IsIntact p image
      → LandsOn v d image ⊎ ((g ≡ Sent) × Lands v f.checkpoint image)
  lands_in_flush p i image d f g s x old keeps = pick (same_below header_bytes (places f.bytes) (slot_bytes image (slot_of_checkpoint v f.checkpoint))) (sent_or_not g)
    where
      sent_or_not : (g : Progress) → (g ≡ Sent) ⊎ (g ≢ Sent)
      sent_or_not Fresh = inr (λ e. cc)
      sent_or_not Secured = inr (λ e. cc)
      sent_or_not Sent = inl refl

      whole_at : (t : ℕ) → t ≡ slot_of_checkpoint v f.checkpoint → SameBelow header_bytes (places f.bytes) (slot_bytes image t) → SameBelow header_bytes (places f.bytes) (slot_bytes image (slot_of_checkpoint v f.checkpoint))
      whole_at t e whole = subst (λ (z : ℕ). SameBelow header_bytes (places f.bytes) (slot_bytes image z)) e whole

      without : (SameBelow header_bytes (places f.bytes) (slot_bytes image (slot_of_checkpoint v f.checkpoint)) → ⊥) ⊎ (g ≢ Sent) → LandsOn v d image
      without no_header = done_there p i image d x.guards keeps (λ t h lt at. least t h (x.older t (slot_bytes image t) h lt (old t h lt at) at))
        where
          least : (t : ℕ) (h : v.Header) → (v.number h ≤ number_of v d) ⊎ ((g ≡ Sent) × IsHeaderUnderWay v f t (slot_bytes image t)) → v.number h ≤ number_of v d
          least t h (inl le) = le
          least t h (inr (e, u)) = elim no_header [ inl torn ↦ absurd (torn (whole_at t u.slot u.bytes)) | inr unsent ↦ absurd (unsent e) ]

      pick : SameBelow header_bytes (places f.bytes) (slot_bytes image (slot_of_checkpoint v f.checkpoint)) ⊎ (SameBelow header_bytes (places f.bytes) (slot_bytes image (slot_of_checkpoint v f.checkpoint)) → ⊥) → (g ≡ Sent) ⊎ (g ≢ Sent)
          → LandsOn v d image ⊎ ((g ≡ Sent) × Lands v f.checkpoint image)
      pick (inl whole) (inl e) = inr (e, sent_there p i image d f g s x e old keeps whole)
      pick (inl whole) (inr unsent) = inl (without (inr unsent))
      pick (inr torn) c = inl (without (inl torn))
