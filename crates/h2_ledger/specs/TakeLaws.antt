-- The moves that take or adopt_sound a block.
use Rattle.std.proofs.Common.{ℕ, suc, ◌≡◌, ◌≢◌, ◌⊎◌, ◌+◌, ◌*◌, ◌/◌, ◌%◌, ◌≤◌, ◌<◌, Some, refl, sym, ap, ◌∙◌, subst, inl, inr, arith, pow_pos}
use Rattle.std.proofs.lemmas.Bool.{cases_eq, cases_lt}
use Rattle.h2_num.specs.declared.block.Block.{Block}
use Rattle.h2_geom.specs.Geometry.{chunk_bytes, segment_of}
use Rattle.h2_codes.specs.declared.code.Code.TheVariants.{Free, Used}
use Rattle.h2_ledger.specs.declared.shared_size.SharedSize.{SharedSize}
use Rattle.h2_ledger.specs.declared.shared_size.SharedSize.TheVariants.{Small, Middle}
use Rattle.h2_codes.specs.declared.cursor.Cursor.{Cursor}
use Rattle.h2_codes.specs.Free.{free_below}
use Rattle.h2_ledger.specs.Ledger.{block_bytes, block_chunk, LiesInOneChunk, AreDisjoint, Ledger, HasBlockIn, IsInUse, by_live, by_pin, by_frozen, by_completed, HasMarked, IsMarked, IsTaken, IsInUseSince, since_live, since_pin, since_frozen, since_completed}
use Rattle.h2_ledger.specs.Moves.{Joins, IsAtCursor, IsAtLowest, IsPaid, IsGranted, at_cursor, at_lowest, at_whole, TakesNext, TakesFirst, TakesWhole, Adopts, radix_of}
use Rattle.h2_ledger.specs.Sound.{IsSound}
use Rattle.h2_ledger.specs.CountLaws.{free_more, free_taken}
use Rattle.h2_ledger.specs.PartLaws.{same_size, used_not_free, in_use_too, has_marked_stays, is_marked_stays, frozen_stays, chunk_stays}

-- two blocks of one chunk each, in different chunks, share nothing
pub apart_by_chunk : (a b : Block) → LiesInOneChunk a → LiesInOneChunk b → block_chunk a ≢ block_chunk b → AreDisjoint a b
apart_by_chunk a b wa wb ne = split (cases_lt (block_chunk a) (block_chunk b))
  where
    split : (block_chunk a < block_chunk b) ⊎ (block_chunk b ≤ block_chunk a) → AreDisjoint a b
    split (inl lt) = inl (omega arith)
    split (inr le) = inr (omega arith)

pub small_size : (size : SharedSize) (b : Block) → b.radix ≡ radix_of size → block_bytes b ≤ chunk_bytes
small_size Small b e = rw e (omega arith)
small_size Middle b e = rw e (omega arith)

pub positive : (b : Block) → 0 < block_bytes b
positive b = pow_pos b.radix

module _ {Set : Type 0} (◌∈◌ : Block → Set → Type 0) where
  infix 40 ◌∈◌
  pub in_use : (x : Ledger Set) → IsSound ◌∈◌ x → (b : Block) → IsInUse ◌∈◌ x b ⊎ IsMarked ◌∈◌ x b → IsTaken (x.code (block_chunk b))
  in_use x sx b (inl h) = sx.covered b h
  in_use x sx b (inr (n, s, p, i)) = sx.marked_covered n s p b i

  -- what is left to show of a move by which a block joins
  pub record Joined (b : Block) (x y : Ledger Set) : Type 0 where
    pub joins : Joins ◌∈◌ b x y
    pub in_one_chunk : LiesInOneChunk b
    pub below_cursor : (k : SharedSize) (at : Cursor) → y.cursor k ≡ Some at → (d : Block) → (IsInUse ◌∈◌ x d ⊎ IsMarked ◌∈◌ x d) ⊎ (d ≡ b) → block_chunk d ≡ at.chunk → d.place + block_bytes d ≤ chunk_bytes * at.chunk + at.used
    pub cursor_taken : (k : SharedSize) (at : Cursor) → y.cursor k ≡ Some at → IsTaken (x.code at.chunk) ⊎ (at.chunk ≡ block_chunk b)
    pub cursors_apart : (j k : SharedSize) (a b : Cursor) → y.cursor j ≡ Some a → y.cursor k ≡ Some b → a.chunk ≡ b.chunk → j ≡ k
    pub reserved_is_free : y.reserved ≤ free_below y.code y.chunks

  held_or_new : (b : Block) (x y : Ledger Set) → Joins ◌∈◌ b x y → (d : Block) → IsInUse ◌∈◌ y d → IsInUse ◌∈◌ x d ⊎ (d ≡ b)
  held_or_new b x y j d (by_live i) = live (j.live d i)
    where
      live : (d ∈ x.live) ⊎ (d ≡ b) → IsInUse ◌∈◌ x d ⊎ (d ≡ b)
      live (inl i) = inl (by_live i)
      live (inr e) = inr e
  held_or_new b x y j d (by_pin i) = pin (j.pins d i)
    where
      pin : (d ∈ x.pins) ⊎ (d ≡ b) → IsInUse ◌∈◌ x d ⊎ (d ≡ b)
      pin (inl i) = inl (by_pin i)
      pin (inr e) = inr e
  held_or_new b x y j d (by_frozen f) = inl (by_frozen (frozen_stays ◌∈◌ x y j.roots d f))
  held_or_new b x y j d (by_completed i) = inl (by_completed ((j.roots.completed d).0 i))

  since_or_new : (b : Block) (x y : Ledger Set) → Joins ◌∈◌ b x y → (n : ℕ) (d : Block) → IsInUseSince ◌∈◌ n y d → IsInUseSince ◌∈◌ n x d ⊎ (d ≡ b)
  since_or_new b x y j n d (since_live i) = live (j.live d i)
    where
      live : (d ∈ x.live) ⊎ (d ≡ b) → IsInUseSince ◌∈◌ n x d ⊎ (d ≡ b)
      live (inl i) = inl (since_live i)
      live (inr e) = inr e
  since_or_new b x y j n d (since_pin i) = pin (j.pins d i)
    where
      pin : (d ∈ x.pins) ⊎ (d ≡ b) → IsInUseSince ◌∈◌ n x d ⊎ (d ≡ b)
      pin (inl i) = inl (since_pin i)
      pin (inr e) = inr e
  since_or_new b x y j n d (since_frozen k e le i) = inl (since_frozen k (sym j.roots.frozen_number ∙ e) le ((j.roots.frozen d).0 i))
  since_or_new b x y j n d (since_completed le i) = inl (since_completed (let e : y.completed_number ≡ x.completed_number = j.roots.completed_number in omega arith) ((j.roots.completed d).0 i))

  either_or_new : (b : Block) (x y : Ledger Set) → Joins ◌∈◌ b x y → (d : Block) → IsInUse ◌∈◌ y d ⊎ IsMarked ◌∈◌ y d → (IsInUse ◌∈◌ x d ⊎ IsMarked ◌∈◌ x d) ⊎ (d ≡ b)
  either_or_new b x y j d (inl h) = old (held_or_new b x y j d h)
    where
      old : IsInUse ◌∈◌ x d ⊎ (d ≡ b) → (IsInUse ◌∈◌ x d ⊎ IsMarked ◌∈◌ x d) ⊎ (d ≡ b)
      old (inl h) = inl (inl h)
      old (inr e) = inr e
  either_or_new b x y j d (inr h) = inl (inr (is_marked_stays ◌∈◌ x y j.pass d h))

  -- a chunk in use stays in use, a used one used
  still_used : (b : Block) (x y : Ledger Set) → Joins ◌∈◌ b x y → (c : ℕ) → x.code c ≡ Used → y.code c ≡ Used
  still_used b x y j c u = split (cases_eq c (block_chunk b))
    where
      split : (c ≡ block_chunk b) ⊎ (c ≢ block_chunk b) → y.code c ≡ Used
      split (inl e) = ap y.code e ∙ j.used
      split (inr ne) = j.codes c ne ∙ u

  still_in_use : (b : Block) (x y : Ledger Set) → Joins ◌∈◌ b x y → (c : ℕ) → IsTaken (x.code c) → IsTaken (y.code c)
  still_in_use b x y j c u = split (cases_eq c (block_chunk b))
    where
      split : (c ≡ block_chunk b) ⊎ (c ≢ block_chunk b) → IsTaken (y.code c)
      split (inl e) = inr (ap y.code e ∙ j.used)
      split (inr ne) = in_use_too (x.code c) (y.code c) (j.codes c ne) u

  -- what is free afterwards was free, and is not the taken chunk
  pub was_free : (b : Block) (x y : Ledger Set) → Joins ◌∈◌ b x y → (c : ℕ) → y.code c ≡ Free → (x.code c ≡ Free) × (c ≢ block_chunk b)
  was_free b x y j c free = split (cases_eq c (block_chunk b))
    where
      split : (c ≡ block_chunk b) ⊎ (c ≢ block_chunk b) → (x.code c ≡ Free) × (c ≢ block_chunk b)
      split (inl e) = let used : y.code c ≡ Used = ap y.code e ∙ j.used in absurd (cc)
      split (inr ne) = (sym (j.codes c ne) ∙ free, ne)

  pub joined : (b : Block) (x y : Ledger Set) → Joined b x y → IsSound ◌∈◌ x → IsSound ◌∈◌ y
  joined b x y m sx = record {
    covered = λ d h. covered d (held_or_new b x y j d h);
    in_one_chunk = λ d h. whole d (either_or_new b x y j d h);
    marked_or_used = λ n s p d h le. aged n s (has_marked_stays ◌∈◌ x y j.pass n s p) d le (since_or_new b x y j n d h);
    marked_covered = λ n s p d i. still_in_use b x y j (block_chunk d) (sx.marked_covered n s (has_marked_stays ◌∈◌ x y j.pass n s p) d ((j.pass.marked d).0 i));
    scans_after_header = λ n s e. rw j.roots.completed_number (sx.scans_after_header n s (sym j.pass.pass ∙ e));
    frozen_is_next = λ n e. sx.frozen_is_next n (sym j.roots.frozen_number ∙ e) ∙ ap suc (sym j.roots.completed_number);
    below_cursor = λ k at e d h same. m.below_cursor k at e d (either_or_new b x y j d h) same;
    cursor_taken = λ k at e. cursor_still at (m.cursor_taken k at e);
    cursors_apart = m.cursors_apart;
    reserved_is_free = m.reserved_is_free;
  }
    where
      j : Joins ◌∈◌ b x y
      j = m.joins

      new_used : (d : Block) → d ≡ b → y.code (block_chunk d) ≡ Used
      new_used d e = ap (λ z. y.code (block_chunk z)) e ∙ j.used

      covered : (d : Block) → IsInUse ◌∈◌ x d ⊎ (d ≡ b) → IsTaken (y.code (block_chunk d))
      covered d (inl h) = still_in_use b x y j (block_chunk d) (sx.covered d h)
      covered d (inr e) = inr (new_used d e)

      whole : (d : Block) → (IsInUse ◌∈◌ x d ⊎ IsMarked ◌∈◌ x d) ⊎ (d ≡ b) → LiesInOneChunk d
      whole d (inl h) = sx.in_one_chunk d h
      whole d (inr e) = subst LiesInOneChunk (sym e) m.in_one_chunk

      old_aged : (c : ℕ) → HasBlockIn ◌∈◌ x.marked c ⊎ (x.code c ≡ Used) → HasBlockIn ◌∈◌ y.marked c ⊎ (y.code c ≡ Used)
      old_aged c (inl i) = inl (chunk_stays ◌∈◌ x y j.pass.marked c i)
      old_aged c (inr u) = inr (still_used b x y j c u)

      aged : (n s : ℕ) → HasMarked x.pass n s → (d : Block) → s ≤ segment_of (block_chunk d) → IsInUseSince ◌∈◌ n x d ⊎ (d ≡ b) → HasBlockIn ◌∈◌ y.marked (block_chunk d) ⊎ (y.code (block_chunk d) ≡ Used)
      aged n s p d le (inl h) = old_aged (block_chunk d) (sx.marked_or_used n s p d h le)
      aged n s p d le (inr e) = inr (new_used d e)

      cursor_still : (at : Cursor) → IsTaken (x.code at.chunk) ⊎ (at.chunk ≡ block_chunk b) → IsTaken (y.code at.chunk)
      cursor_still at (inl t) = still_in_use b x y j at.chunk t
      cursor_still at (inr e) = inr (ap y.code e ∙ j.used)

  -- a cursor's chunk isn't free
  cursor_not_free : (x : Ledger Set) → IsSound ◌∈◌ x → (k : SharedSize) (at : Cursor) → x.cursor k ≡ Some at → x.code at.chunk ≢ Free
  cursor_not_free x sx k at e = used_not_free (x.code at.chunk) (sx.cursor_taken k at e)

  -- nothing in use lies in a free chunk
  pub not_in_free : (x : Ledger Set) → IsSound ◌∈◌ x → (c : ℕ) → x.code c ≡ Free → (d : Block) → IsInUse ◌∈◌ x d ⊎ IsMarked ◌∈◌ x d → block_chunk d ≢ c
  not_in_free x sx c free d h e = used_not_free (x.code (block_chunk d)) (in_use x sx d h) (ap x.code e ∙ free)

  -- the count, where a free chunk is taken
  first_backed : (b : Block) (x y : Ledger Set) → Joins ◌∈◌ b x y → IsAtLowest ◌∈◌ b x → IsPaid ◌∈◌ x y → IsSound ◌∈◌ x → y.reserved ≤ free_below y.code y.chunks
  first_backed b x y j f p sx =
      let fell : suc (free_below y.code x.chunks) ≡ free_below x.code x.chunks = free_taken x.code y.code (block_chunk b) f.lowest.free j.used j.codes x.chunks f.lowest.in_volume in
      rw j.chunks (paid fell p)
    where
      paid : suc (free_below y.code x.chunks) ≡ free_below x.code x.chunks → (suc y.reserved ≡ x.reserved) ⊎ ((y.reserved ≡ x.reserved) × (x.reserved < free_below x.code x.chunks)) → y.reserved ≤ free_below y.code x.chunks
      paid fell (inl e) = let h : x.reserved ≤ free_below x.code x.chunks = sx.reserved_is_free in omega arith
      paid fell (inr (e, lt)) = omega arith

  -- the count, where the chunk was not free
  used_backed : (b : Block) (x y : Ledger Set) → Joins ◌∈◌ b x y → x.code (block_chunk b) ≢ Free → y.reserved ≡ x.reserved → IsSound ◌∈◌ x → y.reserved ≤ free_below y.code y.chunks
  used_backed b x y j nf same sx =
      let h : x.reserved ≤ free_below x.code x.chunks = sx.reserved_is_free in
      let more : free_below x.code x.chunks ≤ free_below y.code x.chunks = free_more x.code y.code (λ c f. j.codes c (λ e. nf (ap x.code (sym e) ∙ f)) ∙ f) x.chunks in
      rw j.chunks (omega arith)

  pub take_whole_sound : (b : Block) (x y : Ledger Set) → TakesWhole ◌∈◌ b x y → IsSound ◌∈◌ x → IsSound ◌∈◌ y
  take_whole_sound b x y m sx = joined b x y (record {
    joins = m.joins;
    in_one_chunk = rw m.radix (let at : b.place ≡ chunk_bytes * block_chunk b = m.place.at in omega arith);
    below_cursor = λ k at e d h same. below k at (sym (m.cursors.cursors k) ∙ e) d same h;
    cursor_taken = λ k at e. inl (sx.cursor_taken k at (sym (m.cursors.cursors k) ∙ e));
    cursors_apart = λ j k a c ea ec same. sx.cursors_apart j k a c (sym (m.cursors.cursors j) ∙ ea) (sym (m.cursors.cursors k) ∙ ec) same;
    reserved_is_free = first_backed b x y m.joins m.place m.paid sx;
  }) sx
    where
      below : (k : SharedSize) (at : Cursor) → x.cursor k ≡ Some at → (d : Block) → block_chunk d ≡ at.chunk → (IsInUse ◌∈◌ x d ⊎ IsMarked ◌∈◌ x d) ⊎ (d ≡ b) → d.place + block_bytes d ≤ chunk_bytes * at.chunk + at.used
      below k at e d same (inl h) = sx.below_cursor k at e d h same
      below k at e d same (inr new) = absurd (cursor_not_free x sx k at e (ap x.code (sym same ∙ ap block_chunk new) ∙ m.place.lowest.free))

  pub adopt_sound : (b : Block) (x y : Ledger Set) → Adopts ◌∈◌ b x y → IsSound ◌∈◌ x → IsSound ◌∈◌ y
  adopt_sound b x y m sx = joined b x y (record {
    joins = m.joins;
    in_one_chunk = m.in_one_chunk;
    below_cursor = λ k at e d h same. below k at (sym (m.cursors.cursors k) ∙ e) d same h;
    cursor_taken = λ k at e. inl (sx.cursor_taken k at (sym (m.cursors.cursors k) ∙ e));
    cursors_apart = λ j k a c ea ec same. sx.cursors_apart j k a c (sym (m.cursors.cursors j) ∙ ea) (sym (m.cursors.cursors k) ∙ ec) same;
    reserved_is_free = used_backed b x y m.joins (used_not_free (x.code (block_chunk b)) m.taken) m.reserved sx;
  }) sx
    where
      below : (k : SharedSize) (at : Cursor) → x.cursor k ≡ Some at → (d : Block) → block_chunk d ≡ at.chunk → (IsInUse ◌∈◌ x d ⊎ IsMarked ◌∈◌ x d) ⊎ (d ≡ b) → d.place + block_bytes d ≤ chunk_bytes * at.chunk + at.used
      below k at e d same (inl h) = sx.below_cursor k at e d h same
      below k at e d same (inr new) = absurd (m.apart k at e (sym same ∙ ap block_chunk new))

  -- the cursor to which a block of a shared size moves it on
  pub next_place : (size : SharedSize) (b : Block) (x : Ledger Set) (m : IsAtCursor ◌∈◌ size b x) → (b.place / chunk_bytes ≡ m.old.chunk) × (b.place % chunk_bytes + block_bytes b ≤ chunk_bytes)
  next_place size b x m =
      let at : b.place ≡ chunk_bytes * m.old.chunk + m.old.used = m.at in
      let room : m.old.used + block_bytes b ≤ chunk_bytes = m.room in
      let some : 0 < block_bytes b = positive b in
      (omega arith, omega arith)

  pub take_next_sound : (size : SharedSize) (b : Block) (x y : Ledger Set) → TakesNext ◌∈◌ size b x y → IsSound ◌∈◌ x → IsSound ◌∈◌ y
  take_next_sound size b x y m sx = joined b x y (record {
    joins = m.joins;
    in_one_chunk = (next_place size b x m.place).1;
    below_cursor = λ k at e d h same. below k at e d same (same_size k size) h;
    cursor_taken = λ k at e. inl (cursor_used k at (prior k at e (same_size k size)));
    cursors_apart = λ j k a c ea ec same. apart j k a c same (prior j a ea (same_size j size)) (prior k c ec (same_size k size));
    reserved_is_free = used_backed b x y m.joins (λ free. cursor_not_free x sx size m.place.old m.place.was (ap x.code (sym (next_place size b x m.place).0) ∙ free)) m.reserved sx;
  }) sx
    where
      moved_at : (k : SharedSize) (at : Cursor) → y.cursor k ≡ Some at → k ≡ size → at ≡ record { chunk = m.place.old.chunk; used = m.place.old.used + block_bytes b }
      moved_at k at e ek = let moved : y.cursor size ≡ Some (record { chunk = m.place.old.chunk; used = m.place.old.used + block_bytes b }) = m.moved in cc

      -- each cursor was in its chunk before
      prior : (k : SharedSize) (at : Cursor) → y.cursor k ≡ Some at → (k ≡ size) ⊎ (k ≢ size) → (old : Cursor) × (x.cursor k ≡ Some old) × (old.chunk ≡ at.chunk)
      prior k at e (inl ek) = (m.place.old, ap x.cursor ek ∙ m.place.was, sym (ap (λ (z : Cursor). z.chunk) (moved_at k at e ek)))
      prior k at e (inr nk) = (at, sym (m.others k nk) ∙ e, refl)

      cursor_used : (k : SharedSize) (at : Cursor) → ((old : Cursor) × (x.cursor k ≡ Some old) × (old.chunk ≡ at.chunk)) → IsTaken (x.code at.chunk)
      cursor_used k at (old, e, same) = subst (λ c. IsTaken (x.code c)) same (sx.cursor_taken k old e)

      apart : (j k : SharedSize) (a c : Cursor) → a.chunk ≡ c.chunk → ((old : Cursor) × (x.cursor j ≡ Some old) × (old.chunk ≡ a.chunk)) → ((old : Cursor) × (x.cursor k ≡ Some old) × (old.chunk ≡ c.chunk)) → j ≡ k
      apart j k a c same (old, e, ea) (former, f, fc) = sx.cursors_apart j k old former e f (ea ∙ same ∙ sym fc)

      below_moved : (d : Block) → block_chunk d ≡ m.place.old.chunk → (IsInUse ◌∈◌ x d ⊎ IsMarked ◌∈◌ x d) ⊎ (d ≡ b) → d.place + block_bytes d ≤ chunk_bytes * m.place.old.chunk + (m.place.old.used + block_bytes b)
      below_moved d same (inl h) = let lower : d.place + block_bytes d ≤ chunk_bytes * m.place.old.chunk + m.place.old.used = sx.below_cursor size m.place.old m.place.was d h same in omega arith
      below_moved d same (inr new) = rw new (let at : b.place ≡ chunk_bytes * m.place.old.chunk + m.place.old.used = m.place.at in omega arith)

      below_other : (k : SharedSize) (at : Cursor) → x.cursor k ≡ Some at → k ≢ size → (d : Block) → block_chunk d ≡ at.chunk → (IsInUse ◌∈◌ x d ⊎ IsMarked ◌∈◌ x d) ⊎ (d ≡ b) → d.place + block_bytes d ≤ chunk_bytes * at.chunk + at.used
      below_other k at e nk d same (inl h) = sx.below_cursor k at e d h same
      below_other k at e nk d same (inr new) = absurd (nk (sx.cursors_apart k size at m.place.old e m.place.was (sym same ∙ ap block_chunk new ∙ (next_place size b x m.place).0)))

      below : (k : SharedSize) (at : Cursor) → y.cursor k ≡ Some at → (d : Block) → block_chunk d ≡ at.chunk → (k ≡ size) ⊎ (k ≢ size) → (IsInUse ◌∈◌ x d ⊎ IsMarked ◌∈◌ x d) ⊎ (d ≡ b) → d.place + block_bytes d ≤ chunk_bytes * at.chunk + at.used
      below k at e d same (inl ek) h =
          let eq : at ≡ record { chunk = m.place.old.chunk; used = m.place.old.used + block_bytes b } = moved_at k at e ek in
          subst (λ (z : Cursor). d.place + block_bytes d ≤ chunk_bytes * z.chunk + z.used) (sym eq) (below_moved d (same ∙ ap (λ (z : Cursor). z.chunk) eq) h)
      below k at e d same (inr nk) h = below_other k at (sym (m.others k nk) ∙ e) nk d same h

  pub take_first_sound : (size : SharedSize) (b : Block) (x y : Ledger Set) → TakesFirst ◌∈◌ size b x y → IsSound ◌∈◌ x → IsSound ◌∈◌ y
  take_first_sound size b x y m sx = joined b x y (record {
    joins = m.joins;
    in_one_chunk = (let at : b.place ≡ chunk_bytes * block_chunk b = m.place.at in let small : block_bytes b ≤ chunk_bytes = small_size size b m.radix in omega arith);
    below_cursor = λ k at e d h same. below k at e d same (same_size k size) h;
    cursor_taken = λ k at e. cursor_used k at e (same_size k size);
    cursors_apart = λ j k a c ea ec same. apart j k a c ea ec same (same_size j size) (same_size k size);
    reserved_is_free = first_backed b x y m.joins m.place m.paid sx;
  }) sx
    where
      moved_at : (k : SharedSize) (at : Cursor) → y.cursor k ≡ Some at → k ≡ size → at ≡ record { chunk = block_chunk b; used = block_bytes b }
      moved_at k at e ek = let moved : y.cursor size ≡ Some (record { chunk = block_chunk b; used = block_bytes b }) = m.moved in cc

      chunk_at : (k : SharedSize) (at : Cursor) → y.cursor k ≡ Some at → k ≡ size → at.chunk ≡ block_chunk b
      chunk_at k at e ek = ap (λ (z : Cursor). z.chunk) (moved_at k at e ek)

      -- no cursor was in a free chunk
      elsewhere : (k : SharedSize) (at : Cursor) → y.cursor k ≡ Some at → k ≢ size → at.chunk ≡ block_chunk b → ⊥
      elsewhere k at e nk same = cursor_not_free x sx k at (sym (m.others k nk) ∙ e) (ap x.code same ∙ m.place.lowest.free)

      cursor_used : (k : SharedSize) (at : Cursor) → y.cursor k ≡ Some at → (k ≡ size) ⊎ (k ≢ size) → IsTaken (x.code at.chunk) ⊎ (at.chunk ≡ block_chunk b)
      cursor_used k at e (inl ek) = inr (chunk_at k at e ek)
      cursor_used k at e (inr nk) = inl (sx.cursor_taken k at (sym (m.others k nk) ∙ e))

      apart : (j k : SharedSize) (a c : Cursor) → y.cursor j ≡ Some a → y.cursor k ≡ Some c → a.chunk ≡ c.chunk → (j ≡ size) ⊎ (j ≢ size) → (k ≡ size) ⊎ (k ≢ size) → j ≡ k
      apart j k a c ea ec same (inl ej) (inl ek) = ej ∙ sym ek
      apart j k a c ea ec same (inl ej) (inr nk) = absurd (elsewhere k c ec nk (sym same ∙ chunk_at j a ea ej))
      apart j k a c ea ec same (inr nj) (inl ek) = absurd (elsewhere j a ea nj (same ∙ chunk_at k c ec ek))
      apart j k a c ea ec same (inr nj) (inr nk) = sx.cursors_apart j k a c (sym (m.others j nj) ∙ ea) (sym (m.others k nk) ∙ ec) same

      below_moved : (d : Block) → block_chunk d ≡ block_chunk b → (IsInUse ◌∈◌ x d ⊎ IsMarked ◌∈◌ x d) ⊎ (d ≡ b) → d.place + block_bytes d ≤ chunk_bytes * block_chunk b + block_bytes b
      below_moved d same (inl h) = absurd (not_in_free x sx (block_chunk b) m.place.lowest.free d h same)
      below_moved d same (inr new) = rw new (let at : b.place ≡ chunk_bytes * block_chunk b = m.place.at in omega arith)

      below_other : (k : SharedSize) (at : Cursor) → y.cursor k ≡ Some at → k ≢ size → (d : Block) → block_chunk d ≡ at.chunk → (IsInUse ◌∈◌ x d ⊎ IsMarked ◌∈◌ x d) ⊎ (d ≡ b) → d.place + block_bytes d ≤ chunk_bytes * at.chunk + at.used
      below_other k at e nk d same (inl h) = sx.below_cursor k at (sym (m.others k nk) ∙ e) d h same
      below_other k at e nk d same (inr new) = absurd (elsewhere k at e nk (sym same ∙ ap block_chunk new))

      below : (k : SharedSize) (at : Cursor) → y.cursor k ≡ Some at → (d : Block) → block_chunk d ≡ at.chunk → (k ≡ size) ⊎ (k ≢ size) → (IsInUse ◌∈◌ x d ⊎ IsMarked ◌∈◌ x d) ⊎ (d ≡ b) → d.place + block_bytes d ≤ chunk_bytes * at.chunk + at.used
      below k at e d same (inl ek) h =
          let eq : at ≡ record { chunk = block_chunk b; used = block_bytes b } = moved_at k at e ek in
          subst (λ (z : Cursor). d.place + block_bytes d ≤ chunk_bytes * z.chunk + z.used) (sym eq) (below_moved d (same ∙ ap (λ (z : Cursor). z.chunk) eq) h)
      below k at e d same (inr nk) h = below_other k at e nk d same h

  lowest_apart : (b : Block) (x : Ledger Set) → IsAtLowest ◌∈◌ b x → block_bytes b ≤ chunk_bytes → IsSound ◌∈◌ x → (d : Block) → IsInUse ◌∈◌ x d ⊎ IsMarked ◌∈◌ x d → AreDisjoint b d
  lowest_apart b x m small sx d h = apart_by_chunk b d (let at : b.place ≡ chunk_bytes * block_chunk b = m.at in omega arith) (sx.in_one_chunk d h) (λ same. not_in_free x sx (block_chunk b) m.lowest.free d h (sym same))

  cursor_apart : (size : SharedSize) (b : Block) (x : Ledger Set) → IsAtCursor ◌∈◌ size b x → IsSound ◌∈◌ x → (d : Block) → IsInUse ◌∈◌ x d ⊎ IsMarked ◌∈◌ x d → AreDisjoint b d
  cursor_apart size b x m sx d h = split (cases_eq (block_chunk d) m.old.chunk)
    where
      split : (block_chunk d ≡ m.old.chunk) ⊎ (block_chunk d ≢ m.old.chunk) → AreDisjoint b d
      split (inl same) = inr (let lower : d.place + block_bytes d ≤ chunk_bytes * m.old.chunk + m.old.used = sx.below_cursor size m.old m.was d h same in let at : b.place ≡ chunk_bytes * m.old.chunk + m.old.used = m.at in omega arith)
      split (inr ne) = apart_by_chunk b d (next_place size b x m).1 (sx.in_one_chunk d h) (λ same. ne (sym same ∙ (next_place size b x m).0))

  -- what is taken shares nothing with what is in use
  pub granted_apart : (b : Block) (x : Ledger Set) → IsGranted ◌∈◌ b x → IsSound ◌∈◌ x → (d : Block) → IsInUse ◌∈◌ x d ⊎ IsMarked ◌∈◌ x d → AreDisjoint b d
  granted_apart b x (at_cursor size m) sx d h = cursor_apart size b x m sx d h
  granted_apart b x (at_lowest size e m) sx d h = lowest_apart b x m (small_size size b e) sx d h
  granted_apart b x (at_whole e m) sx d h = lowest_apart b x m (rw e (omega arith)) sx d h
