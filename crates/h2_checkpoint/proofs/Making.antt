-- A volume that is being made.
use Rattle.std.proofs.Common.{◌≡◌, ◌≢◌, ◌<◌, ◌≤◌, ℕ, ◌+◌, List, [], ◌∷◌, length, refl, sym, ap, ◌∙◌, subst, inl, inr, arith}
use Rattle.std.specs.Prelude.{nat_le, false}
use Rattle.std.proofs.lemmas.Bool.{cases_eq, lt-leb}
use Rattle.std.proofs.lemmas.List.{length-map}
use Rattle.h2_num.specs.Places.{InRange, Places, Same, SameBelow}
use Rattle.h2_num.specs.PlaceLaws.{outside}
use Rattle.h2_num.specs.Causes.{one_more}
use Rattle.h2_disk.specs.Trace.{Call, Opened, after, latest}
use Rattle.h2_geom.specs.Places.{header_bytes, header_place}
use Rattle.h2_checkpoint.specs.Slots.{InSlot, IsSlot, slot_bytes}
use Rattle.h2_checkpoint.specs.Format.{Format, HasNoHeader, IsLawful, SameReached}
use Rattle.h2_checkpoint.specs.Queue.{Entry, InEntries, entry_of, overlay_all}
use Rattle.h2_checkpoint.specs.Checkpoint.{Blank, Completed, Fresh, Frozen, IsGuardedCheckpoint, IsPlanned, IsQueuedOrThere, Newest, Writing, slot_of_checkpoint}
use Rattle.h2_checkpoint.specs.Marks.{Froze, Header_out, IsFrozenForest, IsLanding, Mark, newest_at}
use Rattle.h2_checkpoint.specs.Runs.{Flush, Idle, IsOpeningForest, Mounts, UnderWay}
use Rattle.h2_checkpoint.specs.Stands.{DiskState, StandsAt}
use Rattle.h2_checkpoint.specs.Steps.{Finishes, IsPlanOf, IsSetBack, MayBeOut, SameElsewhere, image_with, marks_of_flush, queue_of}
use Rattle.h2_checkpoint.specs.Making.{CutsMake, IsFirstPlan, IsMade, IsNoneOrMade, header_moment}
use Rattle.h2_checkpoint.specs.declared.piece.Piece.{Piece}
use Rattle.h2_checkpoint.proofs.Parts.{in_slot, slots_apart}
use Rattle.h2_checkpoint.specs.OverlayLaws.{overlay_others}
use Rattle.h2_disk.specs.Laid.{laid_elsewhere}
use Rattle.h2_checkpoint.proofs.Calls.{stands_opened, freeze_on}
use Rattle.h2_checkpoint.proofs.Cuts.{cut_left}

-- a whole flush changes nothing outside the pieces and the header's place
pub image_elsewhere : (pieces : List Piece) (place : ℕ) (header : List ℕ) (old new : Places) → Same (image_with pieces place header old) new → SameElsewhere pieces place (length header) old new
image_elsewhere pieces place header old new same k out away =
    same k ∙ outside place (length header) (overlay_all (queue_of pieces) old) (image_with pieces place header old) (laid_elsewhere place header (overlay_all (queue_of pieces) old)) k away
    ∙ elim (overlay_others (queue_of pieces) old k) [ inl q ↦ absurd (out q) | inr stays ↦ stays ]

-- before its header's write a whole flush leaves no header to land on
landing_of_flush : {F : Type 0} (number pieces moment m n : ℕ) (forest : F) → m < one_more (moment + pieces + 2) → IsLanding 0 (marks_of_flush number pieces moment (Froze number forest ∷ [])) m n → n ≡ 0
landing_of_flush number pieces moment m n forest early landing = split landing
  where
    none : newest_at 0 (marks_of_flush number pieces moment (Froze number forest ∷ [])) m ≡ 0
    none = let test : nat_le (moment + pieces + 5) m ≡ false = lt-leb (moment + pieces + 5) m (omega arith) in rw test refl

    split : IsLanding 0 (marks_of_flush number pieces moment (Froze number forest ∷ [])) m n → n ≡ 0
    split (inl is) = is ∙ none
    split (inr (is, inl out)) = let le : moment + pieces + 3 ≤ m = out.1 in absurd (omega arith)
    split (inr (is, inr out)) = absurd out

-- and so does one that a fault ends
landing_of_fault : {F : Type 0} (number pieces moment moment_new m n : ℕ) (forest : F) (marks : List (Mark F)) → m < one_more (moment + pieces + 2) → MayBeOut number pieces moment moment_new (Froze number forest ∷ []) marks
    → IsLanding 0 marks m n → n ≡ 0
landing_of_fault number pieces moment moment_new m n forest marks early (inl (le, is)) landing = split (subst (λ (z : List (Mark _)). IsLanding 0 z m n) is landing)
  where
    split : IsLanding 0 (Froze number forest ∷ []) m n → n ≡ 0
    split (inl none) = none
    split (inr (next, out)) = absurd out
landing_of_fault number pieces moment moment_new m n forest marks early (inr (ge, le, is)) landing = split (subst (λ (z : List (Mark _)). IsLanding 0 z m n) is landing)
  where
    split : IsLanding 0 (Header_out number (one_more (moment + pieces + 2)) ∷ Froze number forest ∷ []) m n → n ≡ 0
    split (inl none) = none
    split (inr (next, inl out)) = let begun : one_more (moment + pieces + 2) ≤ m = out.1 in absurd (omega arith)
    split (inr (next, inr out)) = absurd out

module _ (v : Format) (laws : IsLawful v) where
  -- all that was frozen is this forest, under this number
  abbrev pub OnlyFroze : (image : Places) → Frozen v → List (Mark v.Forest) → Type 0
  OnlyFroze image f marks = (n : ℕ) (forest : v.Forest) → IsFrozenForest (IsOpeningForest v (Blank image)) marks n forest → (n ≡ v.number f.checkpoint.header) × (forest ≡ f.checkpoint.forest)

  froze_one : (image : Places) (f : Frozen v) → OnlyFroze image f (Froze (v.number f.checkpoint.header) f.checkpoint.forest ∷ [])
  froze_one image f n forest (inl h) = h
  froze_one image f n forest (inr h) = absurd h

  may_be_out : (image : Places) (f : Frozen v) (pieces m n : ℕ) (marks : List (Mark v.Forest)) → MayBeOut (v.number f.checkpoint.header) pieces m n (Froze (v.number f.checkpoint.header) f.checkpoint.forest ∷ []) marks → OnlyFroze image f marks
  may_be_out image f pieces m n marks (inl (le, is)) k forest h = froze_one image f k forest (subst (λ (z : List (Mark v.Forest)). IsFrozenForest (IsOpeningForest v (Blank image)) z k forest) is h)
  may_be_out image f pieces m n marks (inr (ge, le, is)) k forest h = froze_one image f k forest (subst (λ (z : List (Mark v.Forest)). IsFrozenForest (IsOpeningForest v (Blank image)) z k forest) is h)

  -- where a volume stands that is about to be made
  stands_blank : (x : DiskState) (f : Frozen v) → HasNoHeader v x.image → IsPlanned v (Blank x.image) f → IsQueuedOrThere v x.image f
      → StandsAt v x.moment (Blank x.image) x.trace x (Blank x.image) (UnderWay f Fresh (Writing f.queue)) (Froze (v.number f.checkpoint.header) f.checkpoint.forest ∷ [])
  stands_blank x f bare plan others = freeze_on v laws x.moment (Blank x.image) x.trace [] x (Blank x.image) f plan others
      (stands_opened v laws x.moment (Blank x.image) x.trace [] x (record { sound = bare; read = λ k. refl }) refl)

  cuts_make : (x y : DiskState) (f : Frozen v) (newest : Newest v) (fl : Flush v) (marks : List (Mark v.Forest)) → latest x.trace ≤ x.moment → OnlyFroze x.image f marks
      → ((m n : ℕ) → m < header_moment v f x → IsLanding 0 marks m n → n ≡ 0) → StandsAt v x.moment (Blank x.image) x.trace y newest fl marks → CutsMake v f x y
  cuts_make x y f newest fl marks by only early s = record {
    since = s.since;
    trace_is = s.trace_is;
    by_calls = λ m i ge le left. pick m i (s.survives.cuts m i ge le left);
    by_trace = λ d m i ge le cut. pick m i (s.survives.cuts m i ge le (cut_left v x.image x.trace y.trace s.since m i d (omega arith) s.trace_is cut));
    none_by_calls = λ m i ge le lt left. none m i lt (s.survives.cuts m i ge le left);
    none_by_trace = λ d m i ge le lt cut. none m i lt (s.survives.cuts m i ge le (cut_left v x.image x.trace y.trace s.since m i d (omega arith) s.trace_is cut));
  }
    where
      none : (m : ℕ) (i : Places) → m < header_moment v f x → Mounts v (Blank x.image) marks m i → HasNoHeader v i
      none m i lt (inl h) = h.0
      none m i lt (inr h) =
          let zero : v.number h.header ≡ 0 = early m (v.number h.header) lt h.landing in
          let counts : 1 ≤ v.number h.header = laws.header_counts _ h.header _ h.newest.here in
          absurd (omega arith)

      pick : (m : ℕ) (i : Places) → Mounts v (Blank x.image) marks m i → IsNoneOrMade v f i
      pick m i (inl h) = inl h.0
      pick m i (inr h) = inr (h.header, h.newest, (only (v.number h.header) h.forest h.frozen).0, subst (λ (z : v.Forest). v.Stands i h.header z) (only (v.number h.header) h.forest h.frozen).1 h.stands)

  -- the queue has as many entries as there are pieces
  before_header : (pieces : List Piece) (place : ℕ) (header : List ℕ) (x : DiskState) (f : Frozen v) (m : ℕ) → IsPlanOf v f pieces place header → m < header_moment v f x → m < one_more (x.moment + length pieces + 2)
  before_header pieces place header x f m plan lt =
      let queue : length f.queue ≡ length (queue_of pieces) = ap length plan.queue in
      let count : length (queue_of pieces) ≡ length pieces = length-map pieces entry_of in
      omega arith

  pub finished_safely : (pieces : List Piece) (place : ℕ) (header : List ℕ) (x y : DiskState) → latest x.trace ≤ x.moment → Finishes v pieces place header x y → (f : Frozen v) → IsFirstPlan v f pieces place header x.image → CutsMake v f x y
  finished_safely pieces place header x y by done f p =
      let r = done laws x.moment (Blank x.image) (Blank x.image) x.trace f Fresh (Froze (v.number f.checkpoint.header) f.checkpoint.forest ∷ []) p.pieces_are (stands_blank x f p.none p.plan p.others) in
      cuts_make x y f (Completed f.checkpoint) Idle (marks_of_flush (v.number f.checkpoint.header) (length pieces) x.moment (Froze (v.number f.checkpoint.header) f.checkpoint.forest ∷ [])) by (froze_one x.image f)
      (λ m n lt landing. landing_of_flush (v.number f.checkpoint.header) (length pieces) x.moment m n f.checkpoint.forest (before_header pieces place header x f m p.pieces_are lt) landing) r

  pub set_back_safely : (pieces : List Piece) (place : ℕ) (header : List ℕ) (x y : DiskState) → latest x.trace ≤ x.moment → IsSetBack v pieces place header x y → (f : Frozen v) → IsFirstPlan v f pieces place header x.image → CutsMake v f x y
  set_back_safely pieces place header x y by back f p =
      let r = back laws x.moment (Blank x.image) (Blank x.image) x.trace f Fresh (Froze (v.number f.checkpoint.header) f.checkpoint.forest ∷ []) p.pieces_are (stands_blank x f p.none p.plan p.others) in
      cuts_make x y f (Blank x.image) (UnderWay f r.0 (Writing f.queue)) r.1 by (may_be_out x.image f (length pieces) x.moment y.moment r.1 r.2)
      (λ m n lt landing. landing_of_fault (v.number f.checkpoint.header) (length pieces) x.moment y.moment m n f.checkpoint.forest r.1 (before_header pieces place header x f m p.pieces_are lt) r.2 landing) r.3

  -- a slot that isn't the header's stays as it was
  slot_stays : (pieces : List Piece) (place : ℕ) (header : List ℕ) (old new : Places) (f : Frozen v) (s : ℕ) → IsFirstPlan v f pieces place header old → SameElsewhere pieces place (length header) old new
      → IsSlot s → s ≢ slot_of_checkpoint v f.checkpoint → SameBelow header_bytes (slot_bytes new s) (slot_bytes old s)
  slot_stays pieces place header old new f s p same lt ne k below = sym (same (header_place s + k)
      (λ q. p.plan.off_slots s (header_place s + k) lt (subst (λ (z : List Entry). InEntries z (header_place s + k)) (sym p.pieces_are.queue) q) (in_slot s k below))
      (λ r. ne (slots_apart s (slot_of_checkpoint v f.checkpoint) (header_place s + k) (in_slot s k below) (in_place r))))
    where
      in_place : InRange place (length header) (header_place s + k) → InSlot (slot_of_checkpoint v f.checkpoint) (header_place s + k)
      in_place r =
          let at : place ≡ header_place (slot_of_checkpoint v f.checkpoint) = p.pieces_are.place_is in
          let long : length f.bytes ≡ header_bytes = p.plan.long in
          let len : length f.bytes ≡ length header = ap length p.pieces_are.header_is in
          let le : place ≤ header_place s + k = r.0 in
          let lt : header_place s + k < place + length header = r.1 in
          (omega arith, omega arith)

  pub is_made : (pieces : List Piece) (place : ℕ) (header : List ℕ) (x y : DiskState) → Finishes v pieces place header x y → Same (image_with pieces place header x.image) y.image → (f : Frozen v) → IsFirstPlan v f pieces place header x.image → IsMade v f y.image
  is_made pieces place header x y done same f p =
      let r = done laws x.moment (Blank x.image) (Blank x.image) x.trace f Fresh (Froze (v.number f.checkpoint.header) f.checkpoint.forest ∷ []) p.pieces_are (stands_blank x f p.none p.plan p.others) in
      made r.since r.survives.present.kept.guards
    where
      only : (s : ℕ) (h : v.Header) → IsSlot s → v.HeaderAt s (slot_bytes y.image s) h → s ≡ slot_of_checkpoint v f.checkpoint
      only s h lt at = elim (cases_eq s (slot_of_checkpoint v f.checkpoint)) [
        | inl e ↦ e
        | inr ne ↦ absurd (p.none s h lt (laws.header_local s h (slot_bytes y.image s) (slot_bytes x.image s)
            (slot_stays pieces place header x.image y.image f s p (image_elsewhere pieces place header x.image y.image same) lt ne) at))
      ]

      made : (since : List Call) → IsGuardedCheckpoint v (after since (Opened x.image)) y.image f.checkpoint → IsMade v f y.image
      made since g = record {
        newest = record { here = here; greatest = λ s h lt at. least s h at (only s h lt at) };
        stands = laws.stands_local f.checkpoint.header f.checkpoint.forest f.checkpoint.view y.image read g.checkpoint.stands;
        only = only;
      }
        where
          read : SameReached v f.checkpoint.view (v.roots f.checkpoint.header) y.image
          read k o = g.seen k (inl o) ∙ g.blocks k o

          here : v.HeaderAt (slot_of_checkpoint v f.checkpoint) (slot_bytes y.image (slot_of_checkpoint v f.checkpoint)) f.checkpoint.header
          here = laws.header_local (slot_of_checkpoint v f.checkpoint) f.checkpoint.header _ (slot_bytes y.image (slot_of_checkpoint v f.checkpoint))
              (λ k lt. g.seen (header_place (slot_of_checkpoint v f.checkpoint) + k) (inr (in_slot (slot_of_checkpoint v f.checkpoint) k lt))) g.header

          least : (s : ℕ) (h : v.Header) → v.HeaderAt s (slot_bytes y.image s) h → s ≡ slot_of_checkpoint v f.checkpoint → v.number h ≤ v.number f.checkpoint.header
          least s h at e =
              let there : v.HeaderAt (slot_of_checkpoint v f.checkpoint) (slot_bytes y.image (slot_of_checkpoint v f.checkpoint)) h = subst (λ (z : ℕ). v.HeaderAt z (slot_bytes y.image z) h) e at in
              let one : v.number h ≡ v.number f.checkpoint.header = laws.one_number (slot_of_checkpoint v f.checkpoint) h f.checkpoint.header (slot_bytes y.image (slot_of_checkpoint v f.checkpoint)) there here in
              omega arith
