-- The moves that change no code and no cursor.
use Rattle.std.proofs.Common.{ℕ, suc, ◌≡◌, ◌⊎◌, ◌≤◌, Some, None, refl, sym, ap, ◌∙◌, inl, inr, arith}
use Rattle.h2_num.specs.declared.block.Block.{Block}
use Rattle.h2_geom.specs.Geometry.{segment_of}
use Rattle.h2_codes.specs.declared.code.Code.TheVariants.{Used}
use Rattle.h2_ledger.specs.declared.pass.Pass.TheVariants.{Idle, Begun, Marked, Scanning}
use Rattle.h2_codes.specs.Free.{free_below}
use Rattle.h2_ledger.specs.Ledger.{block_chunk, Ledger, HasBlockIn, IsInUse, by_live, by_pin, by_frozen, by_completed, HasMarked, IsMarked, IsTaken, IsInUseSince, since_live, since_pin, since_frozen, since_completed}
use Rattle.h2_ledger.specs.Moves.{Same, CodesStay, CursorsStay, RootsStay, PassStays, Relinks, Reserves, Freezes, FreezesOfPass, FreezesAlone, Completes, OnlyPass, BeginsPass, BeginsScan, EndsPass}
use Rattle.h2_ledger.specs.Sound.{IsSound}
use Rattle.h2_ledger.specs.CountLaws.{free_same}
use Rattle.h2_ledger.specs.PartLaws.{in_use_too, has_marked_stays, is_marked_stays, frozen_stays, held_lessens, since_lessens, chunk_stays}

free_stays : {Set : Type 0} (◌∈◌ : Block → Set → Type 0) (x y : Ledger Set) → CodesStay ◌∈◌ x y → free_below y.code y.chunks ≡ free_below x.code x.chunks
free_stays has x y codes = rw codes.chunks (free_same x.code y.code x.chunks (λ c lt. codes.codes c))

module _ {Set : Type 0} (◌∈◌ : Block → Set → Type 0) where
  infix 40 ◌∈◌
  -- what is left to show of a move that changes no code and no cursor
  pub record Quiet (x y : Ledger Set) : Type 0 where
    pub codes : CodesStay ◌∈◌ x y
    pub cursors : CursorsStay ◌∈◌ x y
    pub held : (b : Block) → IsInUse ◌∈◌ y b → IsInUse ◌∈◌ x b
    pub marked : (b : Block) → IsMarked ◌∈◌ y b → IsInUse ◌∈◌ x b ⊎ IsMarked ◌∈◌ x b
    pub marked_or_used : (n s : ℕ) → HasMarked y.pass n s → (b : Block) → IsInUseSince ◌∈◌ n y b → s ≤ segment_of (block_chunk b) → HasBlockIn ◌∈◌ y.marked (block_chunk b) ⊎ (x.code (block_chunk b) ≡ Used)
    pub scans_after_header : (n s : ℕ) → y.pass ≡ Scanning n s → n ≤ y.completed_number
    pub frozen_is_next : (m : ℕ) → y.frozen_number ≡ Some m → m ≡ suc y.completed_number
    pub reserved_is_free : y.reserved ≤ free_below x.code x.chunks

  either : (x y : Ledger Set) → Quiet x y → (b : Block) → IsInUse ◌∈◌ y b ⊎ IsMarked ◌∈◌ y b → IsInUse ◌∈◌ x b ⊎ IsMarked ◌∈◌ x b
  either x y q b (inl h) = inl (q.held b h)
  either x y q b (inr h) = q.marked b h

  in_use : (x : Ledger Set) → IsSound ◌∈◌ x → (b : Block) → IsInUse ◌∈◌ x b ⊎ IsMarked ◌∈◌ x b → IsTaken (x.code (block_chunk b))
  in_use x sx b (inl h) = sx.covered b h
  in_use x sx b (inr (n, s, p, i)) = sx.marked_covered n s p b i

  or_used : (x y : Ledger Set) → CodesStay ◌∈◌ x y → (c : ℕ) → HasBlockIn ◌∈◌ y.marked c ⊎ (x.code c ≡ Used) → HasBlockIn ◌∈◌ y.marked c ⊎ (y.code c ≡ Used)
  or_used x y codes c (inl i) = inl i
  or_used x y codes c (inr u) = inr (codes.codes c ∙ u)

  pub quiet : (x y : Ledger Set) → Quiet x y → IsSound ◌∈◌ x → IsSound ◌∈◌ y
  quiet x y q sx = record {
    covered = λ b h. in_use_too (x.code (block_chunk b)) (y.code (block_chunk b)) (q.codes.codes (block_chunk b)) (sx.covered b (q.held b h));
    in_one_chunk = λ b h. sx.in_one_chunk b (either x y q b h);
    marked_or_used = λ n s p b h le. or_used x y q.codes (block_chunk b) (q.marked_or_used n s p b h le);
    marked_covered = λ n s p b i. in_use_too (x.code (block_chunk b)) (y.code (block_chunk b)) (q.codes.codes (block_chunk b)) (in_use x sx b (q.marked b (n, s, p, i)));
    scans_after_header = q.scans_after_header;
    frozen_is_next = q.frozen_is_next;
    below_cursor = λ k at e b h same. sx.below_cursor k at (sym (q.cursors.cursors k) ∙ e) b (either x y q b h) same;
    cursor_taken = λ k at e. in_use_too (x.code at.chunk) (y.code at.chunk) (q.codes.codes at.chunk) (sx.cursor_taken k at (sym (q.cursors.cursors k) ∙ e));
    cursors_apart = λ j k a b ea eb same. sx.cursors_apart j k a b (sym (q.cursors.cursors j) ∙ ea) (sym (q.cursors.cursors k) ∙ eb) same;
    reserved_is_free = let e : free_below y.code y.chunks ≡ free_below x.code x.chunks = free_stays ◌∈◌ x y q.codes in let h : y.reserved ≤ free_below x.code x.chunks = q.reserved_is_free in omega arith;
  }

  -- what stays where roots and pass stay
  next_stays : (x y : Ledger Set) → RootsStay ◌∈◌ x y → IsSound ◌∈◌ x → (m : ℕ) → y.frozen_number ≡ Some m → m ≡ suc y.completed_number
  next_stays x y r sx m e = sx.frozen_is_next m (sym r.frozen_number ∙ e) ∙ ap suc (sym r.completed_number)

  scanned_stays : (x y : Ledger Set) → RootsStay ◌∈◌ x y → PassStays ◌∈◌ x y → IsSound ◌∈◌ x → (n s : ℕ) → y.pass ≡ Scanning n s → n ≤ y.completed_number
  scanned_stays x y r p sx n s e = rw r.completed_number (sx.scans_after_header n s (sym p.pass ∙ e))

  pub relink_sound : (x y : Ledger Set) → Relinks ◌∈◌ x y → IsSound ◌∈◌ x → IsSound ◌∈◌ y
  relink_sound x y m sx = quiet x y (record {
    codes = m.codes;
    cursors = m.cursors;
    held = held;
    marked = λ b h. inr (is_marked_stays ◌∈◌ x y m.pass b h);
    marked_or_used = λ n s p b h le. kept (block_chunk b) (sx.marked_or_used n s (has_marked_stays ◌∈◌ x y m.pass n s p) b (since n b h) le);
    scans_after_header = scanned_stays x y m.roots m.pass sx;
    frozen_is_next = next_stays x y m.roots sx;
    reserved_is_free = rw m.reserved sx.reserved_is_free;
  }) sx
    where
      live_or_pin : (b : Block) → (b ∈ x.live) ⊎ (b ∈ x.pins) → IsInUse ◌∈◌ x b
      live_or_pin b (inl i) = by_live i
      live_or_pin b (inr i) = by_pin i

      held : (b : Block) → IsInUse ◌∈◌ y b → IsInUse ◌∈◌ x b
      held b (by_live i) = live_or_pin b (m.live b i)
      held b (by_pin i) = by_pin (m.pins b i)
      held b (by_frozen f) = by_frozen (frozen_stays ◌∈◌ x y m.roots b f)
      held b (by_completed i) = by_completed ((m.roots.completed b).0 i)

      live_or_pin_since : (n : ℕ) (b : Block) → (b ∈ x.live) ⊎ (b ∈ x.pins) → IsInUseSince ◌∈◌ n x b
      live_or_pin_since n b (inl i) = since_live i
      live_or_pin_since n b (inr i) = since_pin i

      since : (n : ℕ) (b : Block) → IsInUseSince ◌∈◌ n y b → IsInUseSince ◌∈◌ n x b
      since n b (since_live i) = live_or_pin_since n b (m.live b i)
      since n b (since_pin i) = since_pin (m.pins b i)
      since n b (since_frozen k e le i) = since_frozen k (sym m.roots.frozen_number ∙ e) le ((m.roots.frozen b).0 i)
      since n b (since_completed le i) = since_completed (let e : y.completed_number ≡ x.completed_number = m.roots.completed_number in omega arith) ((m.roots.completed b).0 i)

      kept : (c : ℕ) → HasBlockIn ◌∈◌ x.marked c ⊎ (x.code c ≡ Used) → HasBlockIn ◌∈◌ y.marked c ⊎ (x.code c ≡ Used)
      kept c (inl i) = inl (chunk_stays ◌∈◌ x y m.pass.marked c i)
      kept c (inr u) = inr u

  keep_marked : (x y : Ledger Set) → Same ◌∈◌ y.marked x.marked → (c : ℕ) → HasBlockIn ◌∈◌ x.marked c ⊎ (x.code c ≡ Used) → HasBlockIn ◌∈◌ y.marked c ⊎ (x.code c ≡ Used)
  keep_marked x y same c (inl i) = inl (chunk_stays ◌∈◌ x y same c i)
  keep_marked x y same c (inr u) = inr u

  pub reserve_sound : (x y : Ledger Set) → Reserves ◌∈◌ x y → IsSound ◌∈◌ x → IsSound ◌∈◌ y
  reserve_sound x y m sx = quiet x y (record {
    codes = m.codes;
    cursors = m.cursors;
    held = held_lessens ◌∈◌ x y m.uses m.roots;
    marked = λ b h. inr (is_marked_stays ◌∈◌ x y m.pass b h);
    marked_or_used = λ n s p b h le. keep_marked x y m.pass.marked (block_chunk b) (sx.marked_or_used n s (has_marked_stays ◌∈◌ x y m.pass n s p) b (since_lessens ◌∈◌ x y m.uses m.roots n b h) le);
    scans_after_header = scanned_stays x y m.roots m.pass sx;
    frozen_is_next = next_stays x y m.roots sx;
    reserved_is_free = backed m.enough;
  }) sx
    where
      backed : (y.reserved ≤ x.reserved) ⊎ (y.reserved ≤ free_below x.code x.chunks) → y.reserved ≤ free_below x.code x.chunks
      backed (inl le) = let h : x.reserved ≤ free_below x.code x.chunks = sx.reserved_is_free in omega arith
      backed (inr le) = le

  -- what a freeze holds was live or pinned
  freeze_held : (x y : Ledger Set) → Freezes ◌∈◌ x y → (b : Block) → IsInUse ◌∈◌ y b → IsInUse ◌∈◌ x b
  freeze_held x y m b (by_live i) = by_live (m.uses.live b i)
  freeze_held x y m b (by_pin i) = by_pin (m.uses.pins b i)
  freeze_held x y m b (by_frozen (n, e, i)) = by_live ((m.frozen b).0 i)
  freeze_held x y m b (by_completed i) = by_completed ((m.completed b).0 i)

  freeze_next : (x y : Ledger Set) → Freezes ◌∈◌ x y → (n : ℕ) → y.frozen_number ≡ Some n → n ≡ suc y.completed_number
  freeze_next x y m n e = let a : y.frozen_number ≡ Some (suc x.completed_number) = m.number in let b : y.completed_number ≡ x.completed_number = m.completed_number in cc

  pub freeze_sound : (x y : Ledger Set) → FreezesAlone ◌∈◌ x y → IsSound ◌∈◌ x → IsSound ◌∈◌ y
  freeze_sound x y m sx = quiet x y (record {
    codes = m.freezes.codes;
    cursors = m.freezes.cursors;
    held = freeze_held x y m.freezes;
    marked = λ b h. inr (is_marked_stays ◌∈◌ x y m.pass b h);
    marked_or_used = λ n s p b h le. keep_marked x y m.pass.marked (block_chunk b) (sx.marked_or_used n s (has_marked_stays ◌∈◌ x y m.pass n s p) b (since n b h) le);
    scans_after_header = λ n s e. rw m.freezes.completed_number (sx.scans_after_header n s (sym m.pass.pass ∙ e));
    frozen_is_next = freeze_next x y m.freezes;
    reserved_is_free = rw m.freezes.reserved sx.reserved_is_free;
  }) sx
    where
      since : (n : ℕ) (b : Block) → IsInUseSince ◌∈◌ n y b → IsInUseSince ◌∈◌ n x b
      since n b (since_live i) = since_live (m.freezes.uses.live b i)
      since n b (since_pin i) = since_pin (m.freezes.uses.pins b i)
      since n b (since_frozen k e le i) = since_live ((m.freezes.frozen b).0 i)
      since n b (since_completed le i) = since_completed (let e : y.completed_number ≡ x.completed_number = m.freezes.completed_number in omega arith) ((m.freezes.completed b).0 i)

  pub freeze_of_pass_sound : (x y : Ledger Set) → FreezesOfPass ◌∈◌ x y → IsSound ◌∈◌ x → IsSound ◌∈◌ y
  freeze_of_pass_sound x y m sx = quiet x y (record {
    codes = m.freezes.codes;
    cursors = m.freezes.cursors;
    held = freeze_held x y m.freezes;
    marked = λ b h. inl (was_held b ((m.marked b).0 h.3));
    marked_or_used = λ n s p b h le. inl (b, (m.marked b).1 (in_use_then n b (number n s p) h), refl);
    scans_after_header = λ n s e. let now : y.pass ≡ Marked (suc x.completed_number) = m.pass in cc;
    frozen_is_next = freeze_next x y m.freezes;
    reserved_is_free = rw m.freezes.reserved sx.reserved_is_free;
  }) sx
    where
      was_held : (b : Block) → (b ∈ x.live) ⊎ (b ∈ x.pins) → IsInUse ◌∈◌ x b
      was_held b (inl i) = by_live i
      was_held b (inr i) = by_pin i

      number : (n s : ℕ) → HasMarked y.pass n s → n ≡ suc x.completed_number
      number n s (inl p) = let now : y.pass ≡ Marked (suc x.completed_number) = m.pass in let e : y.pass ≡ Marked n = p.0 in cc
      number n s (inr e) = let now : y.pass ≡ Marked (suc x.completed_number) = m.pass in cc

      in_use_then : (n : ℕ) (b : Block) → n ≡ suc x.completed_number → IsInUseSince ◌∈◌ n y b → (b ∈ x.live) ⊎ (b ∈ x.pins)
      in_use_then n b e (since_live i) = inl (m.freezes.uses.live b i)
      in_use_then n b e (since_pin i) = inr (m.freezes.uses.pins b i)
      in_use_then n b e (since_frozen k f le i) = inl ((m.freezes.frozen b).0 i)
      in_use_then n b e (since_completed le i) = let same : y.completed_number ≡ x.completed_number = m.freezes.completed_number in absurd (omega arith)

  pub complete_sound : (x y : Ledger Set) → Completes ◌∈◌ x y → IsSound ◌∈◌ x → IsSound ◌∈◌ y
  complete_sound x y m sx = quiet x y (record {
    codes = m.codes;
    cursors = m.cursors;
    held = held;
    marked = λ b h. inr (is_marked_stays ◌∈◌ x y m.pass b h);
    marked_or_used = λ n s p b h le. keep_marked x y m.pass.marked (block_chunk b) (sx.marked_or_used n s (has_marked_stays ◌∈◌ x y m.pass n s p) b (since n b h) le);
    scans_after_header = λ n s e. let old : n ≤ x.completed_number = sx.scans_after_header n s (sym m.pass.pass ∙ e) in let next : y.completed_number ≡ suc x.completed_number = sx.frozen_is_next y.completed_number m.was in omega arith;
    frozen_is_next = λ n e. let none : y.frozen_number ≡ None = m.frozen_number in cc;
    reserved_is_free = rw m.reserved sx.reserved_is_free;
  }) sx
    where
      none_frozen : (A : Type 0) (n : ℕ) → y.frozen_number ≡ Some n → A
      none_frozen A n e = let none : y.frozen_number ≡ None = m.frozen_number in cc

      held : (b : Block) → IsInUse ◌∈◌ y b → IsInUse ◌∈◌ x b
      held b (by_live i) = by_live (m.uses.live b i)
      held b (by_pin i) = by_pin (m.uses.pins b i)
      held b (by_frozen (n, e, i)) = none_frozen (IsInUse ◌∈◌ x b) n e
      held b (by_completed i) = by_frozen (y.completed_number, m.was, (m.completed b).0 i)

      since : (n : ℕ) (b : Block) → IsInUseSince ◌∈◌ n y b → IsInUseSince ◌∈◌ n x b
      since n b (since_live i) = since_live (m.uses.live b i)
      since n b (since_pin i) = since_pin (m.uses.pins b i)
      since n b (since_frozen k e le i) = none_frozen (IsInUseSince ◌∈◌ n x b) k e
      since n b (since_completed le i) = since_frozen y.completed_number m.was le ((m.completed b).0 i)

  -- no pass has marked anything afterwards
  unmarked : (x y : Ledger Set) → OnlyPass ◌∈◌ x y → ((n s : ℕ) → HasMarked y.pass n s → ⊥) → IsSound ◌∈◌ x → IsSound ◌∈◌ y
  unmarked x y m none sx = quiet x y (record {
    codes = m.codes;
    cursors = m.cursors;
    held = held_lessens ◌∈◌ x y m.uses m.roots;
    marked = λ b h. absurd (none h.0 h.1 h.2);
    marked_or_used = λ n s p b h le. absurd (none n s p);
    scans_after_header = λ n s e. absurd (none n s (inr e));
    frozen_is_next = next_stays x y m.roots sx;
    reserved_is_free = rw m.reserved sx.reserved_is_free;
  }) sx

  pub begin_pass_sound : (x y : Ledger Set) → BeginsPass ◌∈◌ x y → IsSound ◌∈◌ x → IsSound ◌∈◌ y
  begin_pass_sound x y m sx = unmarked x y m.only none sx
    where
      none : (n s : ℕ) → HasMarked y.pass n s → ⊥
      none n s (inl p) = let now : y.pass ≡ Begun = m.now in let e : y.pass ≡ Marked n = p.0 in cc
      none n s (inr e) = let now : y.pass ≡ Begun = m.now in cc

  pub end_pass_sound : (x y : Ledger Set) → EndsPass ◌∈◌ x y → IsSound ◌∈◌ x → IsSound ◌∈◌ y
  end_pass_sound x y m sx = unmarked x y m.only none sx
    where
      none : (n s : ℕ) → HasMarked y.pass n s → ⊥
      none n s (inl p) = let now : y.pass ≡ Idle = m.now in let e : y.pass ≡ Marked n = p.0 in cc
      none n s (inr e) = let now : y.pass ≡ Idle = m.now in cc

  pub begin_scan_sound : (x y : Ledger Set) → BeginsScan ◌∈◌ x y → IsSound ◌∈◌ x → IsSound ◌∈◌ y
  begin_scan_sound x y m sx = quiet x y (record {
    codes = m.only.codes;
    cursors = m.only.cursors;
    held = held_lessens ◌∈◌ x y m.only.uses m.only.roots;
    marked = λ b h. inr (h.0, h.1, was h.0 h.1 h.2, (m.marked b).0 h.3);
    marked_or_used = λ n s p b h le. keep_marked x y m.marked (block_chunk b) (sx.marked_or_used n s (was n s p) b (since_lessens ◌∈◌ x y m.only.uses m.only.roots n b h) le);
    scans_after_header = λ n s e. let now : y.pass ≡ Scanning m.number 0 = m.now in let same : n ≡ m.number = cc in let out : m.number ≤ x.completed_number = m.out in let stays : y.completed_number ≡ x.completed_number = m.only.roots.completed_number in omega arith;
    frozen_is_next = next_stays x y m.only.roots sx;
    reserved_is_free = rw m.only.reserved sx.reserved_is_free;
  }) sx
    where
      was : (n s : ℕ) → HasMarked y.pass n s → HasMarked x.pass n s
      was n s (inl p) = let now : y.pass ≡ Scanning m.number 0 = m.now in let e : y.pass ≡ Marked n = p.0 in cc
      was n s (inr e) =
          let now : y.pass ≡ Scanning m.number 0 = m.now in
          let before : x.pass ≡ Marked m.number = m.was in
          inl (let number : n ≡ m.number = cc in cc, cc)
