-- Proofs of the laws of the freemap and the ledger.
use Rattle.std.proofs.Common.{ℕ, true, false, Option, Some, None, List, ◌∷◌, ◌++◌, ◌≡◌, ◌≢◌, ◌⊎◌, ◌+◌, ◌-◌, ◌/◌, ◌^◌, ◌<◌, ◌≤◌, refl, sym, ap, ◌∙◌, subst, inl, inr, arith, pow_pos}
use Rattle.std.proofs.lemmas.Bool.{cases_Bool}
use Rattle.h2_num.specs.declared.block.Block.{Block}
use Rattle.h2_geom.specs.Geometry.{chunk_bytes, segment_of, in_segment, chunks_of, chunk_place}
use Rattle.h2_codes.specs.declared.code.Code.{Code}
use Rattle.h2_codes.specs.declared.code.Code.TheVariants.{Free, Reserved, Staged, Used}
use Rattle.h2_codes.specs.Free.{free_below, IsLowestFree}
use Rattle.h2_codes.specs.Seen.{has_chunk}
use Rattle.h2_codes.specs.Bulkfree.{seen_code, unseen_code, swept_code}
use Rattle.h2_freemap.specs.declared.size.Size.{Size}
use Rattle.h2_freemap.specs.declared.size.Size.TheVariants as sizes
use Rattle.h2_freemap.specs.Space.{Space, chunk_count, code_in, code_of, cursor_of, ChangesCode}
use Rattle.h2_freemap.specs.Free.{free_of}
use Rattle.h2_freemap.specs.Taking as taking
use Rattle.h2_freemap.specs.Taking.{bytes_of, HasRoom, HasNoRoom, GoesTo, at_cursor, at_lowest, cursor_behind, Takes}
use Rattle.h2_freemap.specs.Need.{blocks_left, need_of_one, need_of_all, NeedSplits}
use Rattle.h2_freemap.specs.Pins.{is_in_use}
use Rattle.h2_freemap.specs.SweepingLaws.{kept_is, kept_stays}
use Rattle.h2_ledger.specs.declared.shared_size.SharedSize.{SharedSize}
use Rattle.h2_ledger.specs.declared.shared_size.SharedSize.TheVariants.{Small, Middle}
use Rattle.h2_codes.specs.declared.cursor.Cursor.{Cursor}
use Rattle.h2_ledger.specs.Ledger.{Ledger, block_chunk, block_bytes, IsTaken, HasBlockIn}
use Rattle.h2_ledger.specs.Moves.{Move, take_next, take_first, take_whole, radix_of, Makes, WithinAnd, Joins, IsAtCursor, IsAtLowest, IsPaid, IsGranted, at_whole, TakesNext, TakesFirst, TakesWhole}
use Rattle.h2_ledger.specs.Moves as ledger
use Rattle.h2_ledger.specs.CountLaws as counting
use Rattle.h2_freemap_ledger.specs.Space.{size_of, IsTakeOf, HasSpace, PaysFor, JoinsBeside}
use Rattle.h2_freemap_ledger.specs.Laws.{TakeMoves, TakeIsGranted, AdoptMoves, ApplyMoves, PaidIsFree, ReservationPays}

-- The sizes of the two agree

-- the cursor in a chunk, behind so many bytes
abbrev cursor : ℕ → ℕ → Option Cursor
cursor chunk used = Some (record { chunk = chunk; used = used })

bytes_same : (k : SharedSize) → bytes_of (size_of k) ≡ 2 ^ radix_of k
bytes_same Small = refl
bytes_same Middle = refl

radix_same : (k : SharedSize) → taking.radix_of (size_of k) ≡ radix_of k
radix_same Small = refl
radix_same Middle = refl

behind : (k : SharedSize) (at : Cursor) → cursor_behind (size_of k) at ≡ Some (record { chunk = at.chunk; used = at.used + 2 ^ radix_of k })
behind Small at = refl
behind Middle at = refl

sizes_apart : (j k : SharedSize) → j ≢ k → size_of j ≢ size_of k
sizes_apart Small Small ne e = ne refl
sizes_apart Small Middle ne e = cc
sizes_apart Middle Small ne e = cc
sizes_apart Middle Middle ne e = ne refl

whole_apart : (k : SharedSize) → size_of k ≢ sizes.Whole
whole_apart Small e = cc
whole_apart Middle e = cc

-- What one block needs: nothing at a cursor with room, and else a chunk

need_at_cursor : (k : SharedSize) (s : Space) (at : Cursor) → cursor_of s (size_of k) ≡ Some at → HasRoom (size_of k) at → need_of_one (size_of k) s ≡ 0
need_at_cursor Small s at e room = let left : blocks_left sizes.Small s.small ≡ (chunk_bytes - at.used) / 1024 = ap (blocks_left sizes.Small) e in let some : 1 ≤ (chunk_bytes - at.used) / 1024 = omega arith in omega arith
need_at_cursor Middle s at e room = let left : blocks_left sizes.Middle s.middle ≡ (chunk_bytes - at.used) / 4096 = ap (blocks_left sizes.Middle) e in let some : 1 ≤ (chunk_bytes - at.used) / 4096 = omega arith in omega arith

none_left : (size : Size) (cursor : Option Cursor) → size ≢ sizes.Whole → HasNoRoom size cursor → blocks_left size cursor ≡ 0
none_left z None ne h = refl
none_left sizes.Small (Some at) ne h = omega arith
none_left sizes.Middle (Some at) ne h = omega arith
none_left sizes.Whole (Some at) ne h = absurd (ne refl)

need_at_lowest : (k : SharedSize) (s : Space) → HasNoRoom (size_of k) (cursor_of s (size_of k)) → need_of_one (size_of k) s ≡ 1
need_at_lowest Small s h = let none : blocks_left sizes.Small s.small ≡ 0 = none_left sizes.Small s.small (whole_apart Small) h in omega arith
need_at_lowest Middle s h = let none : blocks_left sizes.Middle s.middle ≡ 0 = none_left sizes.Middle s.middle (whole_apart Middle) h in omega arith

-- Codes become used in the chunk of a block

module _ {Set : Type 0} (◌∈◌ : Block → Set → Type 0) where
  infix 40 ◌∈◌
  chunks_same : (s t : Space) (x y : Ledger Set) → t.zones ≡ s.zones → HasSpace ◌∈◌ s x → HasSpace ◌∈◌ t y → y.chunks ≡ x.chunks
  chunks_same s t x y e hs ht = ht.chunks ∙ ap chunks_of e ∙ sym hs.chunks

  free_same : (s : Space) (x : Ledger Set) → HasSpace ◌∈◌ s x → free_below x.code x.chunks ≡ free_of s
  free_same s x h = rw h.chunks (counting.free_same (code_of s) x.code (chunk_count s) (λ c lt. h.codes c))

  joins : (s t : Space) (b : Block) (chunk : ℕ) (x y : Ledger Set) → block_chunk b ≡ chunk → ChangesCode chunk Used s t → HasSpace ◌∈◌ s x → HasSpace ◌∈◌ t y → JoinsBeside ◌∈◌ b x y → Joins ◌∈◌ b x y
  joins s t b chunk x y here m hs ht beside = record {
    chunks = chunks_same s t x y m.zones hs ht;
    used = ht.codes (block_chunk b) ∙ ap (code_of t) here ∙ m.changed;
    codes = λ c ne. ht.codes c ∙ m.others c (λ e. ne (e ∙ sym here)) ∙ sym (hs.codes c);
    live = beside.live;
    pins = beside.pins;
    held = beside.held;
    roots = beside.roots;
    pass = beside.pass;
  }

  other_cursors : (k : SharedSize) (s t : Space) (b : Block) (x y : Ledger Set) → Takes (size_of k) s t b → HasSpace ◌∈◌ s x → HasSpace ◌∈◌ t y → (j : SharedSize) → j ≢ k → y.cursor j ≡ x.cursor j
  other_cursors k s t b x y m hs ht j ne = ht.cursors j ∙ m.other_cursors (size_of j) (sizes_apart j k ne) ∙ sym (hs.cursors j)

  -- at a cursor nothing is paid for
  unpaid : (x y : Ledger Set) → PaysFor ◌∈◌ 0 x y → y.reserved ≡ x.reserved
  unpaid x y (inl e) = omega arith
  unpaid x y (inr (e, le)) = e

  -- a chunk is paid for
  paid_one : (x y : Ledger Set) → PaysFor ◌∈◌ 1 x y → IsPaid ◌∈◌ x y
  paid_one x y (inl e) = inl (omega arith)
  paid_one x y (inr (e, le)) = inr (e, omega arith)

  -- the bytes of a block of a shared size
  taken_bytes : (k : SharedSize) (s t : Space) (b : Block) → Takes (size_of k) s t b → block_bytes b ≡ 2 ^ radix_of k
  taken_bytes k s t b m = ap (λ n. 2 ^ n) (m.radix ∙ radix_same k)

  fits : (k : SharedSize) (at : Cursor) → HasRoom (size_of k) at → at.used + 2 ^ radix_of k ≤ chunk_bytes
  fits k at room = let same : bytes_of (size_of k) ≡ 2 ^ radix_of k = bytes_same k in let h : at.used + bytes_of (size_of k) ≤ chunk_bytes = room in omega arith

  is_at_cursor : (k : SharedSize) (s t : Space) (b : Block) (x : Ledger Set) (m : Takes (size_of k) s t b) → cursor_of s (size_of k) ≡ Some m.at → HasRoom (size_of k) m.at → HasSpace ◌∈◌ s x → IsAtCursor ◌∈◌ k b x
  is_at_cursor k s t b x m e room hs = record {
    radix = m.radix ∙ radix_same k;
    old = m.at;
    was = hs.cursors k ∙ e;
    at = m.place;
    room = rw (taken_bytes k s t b m) (fits k m.at room);
  }

  takes_next : (k : SharedSize) (s t : Space) (b : Block) (x y : Ledger Set) (m : Takes (size_of k) s t b) → cursor_of s (size_of k) ≡ Some m.at → HasRoom (size_of k) m.at
      → HasSpace ◌∈◌ s x → HasSpace ◌∈◌ t y → JoinsBeside ◌∈◌ b x y → WithinAnd ◌∈◌ y.fresh x.fresh b → PaysFor ◌∈◌ (need_of_one (size_of k) s) x y → TakesNext ◌∈◌ k b x y
  unfolding is_at_cursor
  takes_next k s t b x y m e room hs ht beside fresh pays = record {
    place = is_at_cursor k s t b x m e room hs;
    joins = joins s t b m.at.chunk x y here m.code hs ht beside;
    fresh = fresh;
    moved = ht.cursors k ∙ m.cursor ∙ behind k m.at ∙ ap (λ (n : ℕ). Some (record { chunk = m.at.chunk; used = m.at.used + n })) (sym (taken_bytes k s t b m));
    others = other_cursors k s t b x y m hs ht;
    reserved = unpaid x y (subst (λ n. PaysFor ◌∈◌ n x y) (need_at_cursor k s m.at e room) pays);
  }
    where
      here : block_chunk b ≡ m.at.chunk
      here = let place : b.place ≡ chunk_place m.at.chunk + m.at.used = m.place in let some : 0 < 2 ^ radix_of k = pow_pos (radix_of k) in let h : m.at.used + 2 ^ radix_of k ≤ chunk_bytes = fits k m.at room in omega arith

  lowest : (s : Space) (b : Block) (chunk used : ℕ) (x : Ledger Set) → b.place ≡ chunk_place chunk + used → used ≡ 0 → IsLowestFree (code_of s) (chunk_count s) chunk → HasSpace ◌∈◌ s x → (block_chunk b ≡ chunk) × IsAtLowest ◌∈◌ b x
  lowest s b chunk used x place none m hs = (
    here,
    record {
      at = omega arith;
      lowest = record {
        in_volume = rw (here, hs.chunks) m.in_volume;
        free = hs.codes (block_chunk b) ∙ ap (code_of s) here ∙ m.free;
        lowest = λ c lt free. m.lowest c (let e : block_chunk b ≡ chunk = here in omega arith) (sym (hs.codes c) ∙ free);
      };
    },
  )
    where
      here : block_chunk b ≡ chunk
      here = omega arith

  -- a cursor with no room is filled
  filled : (k : SharedSize) (b : Block) (cursor : Option Cursor) (old : Cursor) → b.radix ≡ radix_of k → HasNoRoom (size_of k) cursor → cursor ≡ Some old → chunk_bytes < old.used + block_bytes b
  filled k b None old radix h e = cc
  filled k b (Some at) old radix h e =
      let is : at ≡ old = cc in
      let same : bytes_of (size_of k) ≡ 2 ^ radix_of k = bytes_same k in
      subst (λ (z : Cursor). chunk_bytes < z.used + block_bytes b) is (rw radix (no_room k at h))
    where
      no_room : (k : SharedSize) (at : Cursor) → HasNoRoom (size_of k) (Some at) → chunk_bytes < at.used + 2 ^ radix_of k
      no_room Small at h = h
      no_room Middle at h = h

  takes_first : (k : SharedSize) (s t : Space) (b : Block) (x y : Ledger Set) (m : Takes (size_of k) s t b) → HasNoRoom (size_of k) (cursor_of s (size_of k)) → m.at.used ≡ 0 → IsLowestFree (code_of s) (chunk_count s) m.at.chunk
      → HasSpace ◌∈◌ s x → HasSpace ◌∈◌ t y → JoinsBeside ◌∈◌ b x y → WithinAnd ◌∈◌ y.fresh x.fresh b → PaysFor ◌∈◌ (need_of_one (size_of k) s) x y → TakesFirst ◌∈◌ k b x y
  takes_first k s t b x y m no_room none low hs ht beside fresh pays = record {
    radix = radix;
    filled = λ old e. filled k b (cursor_of s (size_of k)) old radix no_room (sym (hs.cursors k) ∙ e);
    place = at.1;
    joins = joins s t b m.at.chunk x y at.0 m.code hs ht beside;
    fresh = fresh;
    paid = paid_one x y (subst (λ n. PaysFor ◌∈◌ n x y) (need_at_lowest k s no_room) pays);
    moved = ht.cursors k ∙ m.cursor ∙ behind k m.at ∙ new;
    others = other_cursors k s t b x y m hs ht;
  }
    where
      radix : b.radix ≡ radix_of k
      radix = m.radix ∙ radix_same k

      at : (block_chunk b ≡ m.at.chunk) × IsAtLowest ◌∈◌ b x
      at = lowest s b m.at.chunk m.at.used x m.place none low hs

      new : cursor m.at.chunk (m.at.used + 2 ^ radix_of k) ≡ cursor (block_chunk b) (block_bytes b)
      new =
          let here : block_chunk b ≡ m.at.chunk = at.0 in
          let used : m.at.used + 2 ^ radix_of k ≡ block_bytes b = (let bytes : block_bytes b ≡ 2 ^ radix_of k = ap (λ n. 2 ^ n) radix in omega arith) in
          ap (cursor m.at.chunk) used ∙ ap (λ c. cursor c (block_bytes b)) (sym here)

  whole_need : (s : Space) → need_of_one sizes.Whole s ≡ 1
  whole_need s = omega arith

  takes_whole : (s t : Space) (b : Block) (x y : Ledger Set) (m : Takes sizes.Whole s t b) → m.at.used ≡ 0 → IsLowestFree (code_of s) (chunk_count s) m.at.chunk
      → HasSpace ◌∈◌ s x → HasSpace ◌∈◌ t y → JoinsBeside ◌∈◌ b x y → WithinAnd ◌∈◌ y.fresh x.fresh b → PaysFor ◌∈◌ (need_of_one sizes.Whole s) x y → TakesWhole ◌∈◌ b x y
  takes_whole s t b x y m none low hs ht beside fresh pays = record {
    radix = m.radix;
    place = at.1;
    joins = joins s t b m.at.chunk x y at.0 m.code hs ht beside;
    fresh = fresh;
    paid = paid_one x y (subst (λ n. PaysFor ◌∈◌ n x y) (whole_need s) pays);
    cursors = record { cursors = λ k. ht.cursors k ∙ m.other_cursors (size_of k) (whole_apart k) ∙ sym (hs.cursors k) };
  }
    where
      at : (block_chunk b ≡ m.at.chunk) × IsAtLowest ◌∈◌ b x
      at = lowest s b m.at.chunk m.at.used x m.place none low hs

  named_next : (k : SharedSize) (b : Block) → IsTakeOf (size_of k) b (take_next k b)
  named_next Small b = inl refl
  named_next Middle b = inl refl

  named_first : (k : SharedSize) (b : Block) → IsTakeOf (size_of k) b (take_first k b)
  named_first Small b = inr refl
  named_first Middle b = inr refl

  take_shared : (k : SharedSize) (s t : Space) (b : Block) (x y : Ledger Set) (m : Takes (size_of k) s t b) → GoesTo (size_of k) s m.at → HasSpace ◌∈◌ s x → HasSpace ◌∈◌ t y
      → JoinsBeside ◌∈◌ b x y → WithinAnd ◌∈◌ y.fresh x.fresh b → PaysFor ◌∈◌ (need_of_one (size_of k) s) x y → (move : Move) × IsTakeOf (size_of k) b move × Makes ◌∈◌ move x y
  take_shared k s t b x y m (at_cursor e room) hs ht beside fresh pays = (take_next k b, named_next k b, takes_next k s t b x y m e room hs ht beside fresh pays)
  take_shared k s t b x y m (at_lowest no_room none low) hs ht beside fresh pays = (take_first k b, named_first k b, takes_first k s t b x y m no_room none low hs ht beside fresh pays)

  take_as_whole : (s t : Space) (b : Block) (x y : Ledger Set) (m : Takes sizes.Whole s t b) → GoesTo sizes.Whole s m.at → HasSpace ◌∈◌ s x → HasSpace ◌∈◌ t y
      → JoinsBeside ◌∈◌ b x y → WithinAnd ◌∈◌ y.fresh x.fresh b → PaysFor ◌∈◌ (need_of_one sizes.Whole s) x y → (move : Move) × IsTakeOf sizes.Whole b move × Makes ◌∈◌ move x y
  take_as_whole s t b x y m (at_cursor e room) hs ht beside fresh pays = cc
  take_as_whole s t b x y m (at_lowest no_room none low) hs ht beside fresh pays = (take_whole b, refl, takes_whole s t b x y m none low hs ht beside fresh pays)

  pub take_moves : TakeMoves ◌∈◌
  take_moves sizes.Small s t b x y m hs ht beside fresh pays = take_shared Small s t b x y m m.goes_to hs ht beside fresh pays
  take_moves sizes.Middle s t b x y m hs ht beside fresh pays = take_shared Middle s t b x y m m.goes_to hs ht beside fresh pays
  take_moves sizes.Whole s t b x y m hs ht beside fresh pays = take_as_whole s t b x y m m.goes_to hs ht beside fresh pays

  granted_shared : (k : SharedSize) (s t : Space) (b : Block) (x : Ledger Set) (m : Takes (size_of k) s t b) → GoesTo (size_of k) s m.at → HasSpace ◌∈◌ s x → IsGranted ◌∈◌ b x
  granted_shared k s t b x m (at_cursor e room) hs = ledger.at_cursor k (is_at_cursor k s t b x m e room hs)
  granted_shared k s t b x m (at_lowest no_room none low) hs = ledger.at_lowest k (m.radix ∙ radix_same k) (lowest s b m.at.chunk m.at.used x m.place none low hs).1

  granted_whole : (s t : Space) (b : Block) (x : Ledger Set) (m : Takes sizes.Whole s t b) → GoesTo sizes.Whole s m.at → HasSpace ◌∈◌ s x → IsGranted ◌∈◌ b x
  granted_whole s t b x m (at_cursor e room) hs = cc
  granted_whole s t b x m (at_lowest no_room none low) hs = at_whole m.radix (lowest s b m.at.chunk m.at.used x m.place none low hs).1

  pub take_is_granted : TakeIsGranted ◌∈◌
  take_is_granted sizes.Small s t b x m hs = granted_shared Small s t b x m m.goes_to hs
  take_is_granted sizes.Middle s t b x m hs = granted_shared Middle s t b x m m.goes_to hs
  take_is_granted sizes.Whole s t b x m hs = granted_whole s t b x m m.goes_to hs

  in_use_taken : (code : Code) → is_in_use code ≡ true → IsTaken code
  in_use_taken Free e = cc
  in_use_taken Reserved e = cc
  in_use_taken Staged e = inl refl
  in_use_taken Used e = inr refl

  pub adopt_moves : AdoptMoves ◌∈◌
  adopt_moves s t b x y m used hs ht beside fresh reserved lies apart = record {
    joins = joins s t b (block_chunk b) x y refl m.code hs ht beside;
    fresh = fresh;
    in_one_chunk = lies;
    taken = subst IsTaken (sym (hs.codes (block_chunk b))) (in_use_taken (code_of s (block_chunk b)) used);
    apart = apart;
    cursors = record { cursors = λ k. ht.cursors k ∙ m.cursors (size_of k) ∙ sym (hs.cursors k) };
    reserved = reserved;
  }

  pub apply_moves : ApplyMoves ◌∈◌
  apply_moves number segment seen s t x y m hs ht sees beside = record {
    was = beside.was;
    chunks = chunks_same s t x y m.zones hs ht;
    in_volume = beside.in_volume;
    applied = λ c here. applied c here (cases_Bool (has_chunk seen (in_segment c)));
    elsewhere = λ c ne. ht.codes c ∙ m.elsewhere c ne ∙ sym (hs.codes c);
    kept = λ k old e ne. ht.cursors k ∙ m.cursors (size_of k) ∙ kept_stays t.segments (cursor_of s (size_of k)) old (sym (hs.cursors k) ∙ e) (λ f. ne (ht.codes old.chunk ∙ f));
    forgotten = λ k new e. forgotten k new (kept_is t.segments (cursor_of s (size_of k)) new (sym (m.cursors (size_of k)) ∙ sym (ht.cursors k) ∙ e));
    reserved = beside.reserved;
    uses = beside.uses;
    roots = beside.roots;
    marked = beside.marked;
    goes_on = beside.goes_on;
    ends = beside.ends;
  }
    where
      applied : (c : ℕ) → segment_of c ≡ segment → (has_chunk seen (in_segment c) ≡ true) ⊎ (has_chunk seen (in_segment c) ≡ false)
          → (HasBlockIn ◌∈◌ x.marked c × (y.code c ≡ seen_code (x.code c))) ⊎ ((HasBlockIn ◌∈◌ x.marked c → ⊥) × (y.code c ≡ unseen_code (x.code c)))
      applied c here (inl is) = inl ((sees c here).0 is, ht.codes c ∙ m.swept c here ∙ ap (λ b. swept_code b (code_of s c)) is ∙ ap seen_code (sym (hs.codes c)))
      applied c here (inr isnt) = inr (λ i. absurd (let is : has_chunk seen (in_segment c) ≡ true = (sees c here).1 i in cc), ht.codes c ∙ m.swept c here ∙ ap (λ b. swept_code b (code_of s c)) isnt ∙ ap unseen_code (sym (hs.codes c)))

      forgotten : (k : SharedSize) (new : Cursor) → (cursor_of s (size_of k) ≡ Some new) × (code_in t.segments new.chunk ≢ Free) → (x.cursor k ≡ Some new) × (y.code new.chunk ≢ Free)
      forgotten k new (e, ne) = (hs.cursors k ∙ e, λ f. ne (sym (ht.codes new.chunk) ∙ f))

  pub paid_is_free : PaidIsFree ◌∈◌
  paid_is_free s n x y sx hs pays = split pays
    where
      free : free_below x.code x.chunks ≡ free_of s
      free = free_same s x hs

      there : x.reserved ≤ free_below x.code x.chunks
      there = sx.reserved_is_free

      split : PaysFor ◌∈◌ n x y → n ≤ free_of s
      split (inl e) = let all : y.reserved + n ≡ x.reserved = e in let same : free_below x.code x.chunks ≡ free_of s = free in let le : x.reserved ≤ free_below x.code x.chunks = there in omega arith
      split (inr (e, le)) = let same : free_below x.code x.chunks ≡ free_of s = free in omega arith

-- What a reservation pays for

need_first : (size : Size) (after : List Size) (u : Space) → need_of_one size u ≤ need_of_all (size ∷ after) u
need_first sizes.Small after u = omega arith
need_first sizes.Middle after u = omega arith
need_first sizes.Whole after u = omega arith

pub reservation_pays : NeedSplits → ReservationPays
reservation_pays splits before size after s u taken =
    let all : need_of_all (before ++ size ∷ after) s ≡ need_of_all before s + need_of_all (size ∷ after) u = splits before (size ∷ after) s u taken in
    let first : need_of_one size u ≤ need_of_all (size ∷ after) u = need_first size after u in
    omega arith
