-- Moves by which a block joins.
use Rattle.std.proofs.Common.{Option, Some, None, List, [], ◌∷◌, ◌++◌, ℕ, ◌≡◌, ◌≢◌, ◌⊎◌, ◌+◌, ◌*◌, ◌^◌, ◌<◌, ◌≤◌, length, set, refl, sym, ap, ◌∙◌, subst, inl, inr, arith, length-set, get_or-set_other, get_or-set_same, pow_pos}
use Rattle.std.proofs.Math.ListN.{get_or-eq_default}
use Rattle.std.proofs.lemmas.Bool.{cases_lt}
use Rattle.std.proofs.lemmas.List.Elements.{Contains-push, Contains-push_cases}
use Rattle.std.specs.List.{Contains}
use Rattle.h2_num.specs.declared.block.Block.{Block}
use Rattle.h2_geom.specs.Geometry.{chunk_bytes}
use Rattle.h2_codes.specs.declared.code.Code.{Code}
use Rattle.h2_codes.specs.declared.code.Code.TheVariants.{Reserved, Used}
use Rattle.h2_codes.specs.Codes.{code_at}
use Rattle.h2_codes.specs.Free.{IsLowestFree}
use Rattle.h2_ledger.specs.declared.shared_size.SharedSize.{SharedSize}
use Rattle.h2_ledger.specs.declared.shared_size.SharedSize.TheVariants.{Small, Middle}
use Rattle.h2_codes.specs.declared.cursor.Cursor.{Cursor}
use Rattle.h2_ledger.specs.Ledger.{IsTaken, block_chunk, block_bytes}
use Rattle.h2_ledger.specs.Moves.{Same, Joins, IsPaid, IsAtLowest, TakesNext, TakesFirst, TakesWhole, Adopts, radix_of}
use Rattle.h2_plain_ledger.specs.declared.cursors.Cursors.{Cursors}
use Rattle.h2_plain_ledger.specs.declared.buying.Payment.{Payment}
use Rattle.h2_plain_ledger.specs.declared.buying.Payment.TheVariants.{FromReserved, FromFree}
use Rattle.h2_plain_ledger.specs.Buying as buying
use Rattle.h2_plain_ledger.specs.State.{State, as_ledger, has, cursor_of, with_cursor, IsFilledAt}
use Rattle.h2_plain_ledger.specs.Steps.{with_taken, with_adopted, with_cursor_at, IsTakenNext, IsTakenLowest, IsTakenFirst, IsTakenWhole, IsShareable}

same : (blocks : List Block) → Same has blocks blocks
same blocks b = (λ i. i, λ i. i)

pub pushed : (blocks : List Block) (new b : Block) → Contains (blocks ++ new ∷ []) b → Contains blocks b ⊎ (b ≡ new)
pushed blocks new b i = turn (Contains-push_cases blocks new b i)
  where
    turn : Contains blocks b ⊎ (new ≡ b) → Contains blocks b ⊎ (b ≡ new)
    turn (inl i) = inl i
    turn (inr e) = inr (sym e)

-- a block joins the pins
pub joins : (s : State) (b : Block) (cursors : Cursors) (reserved : ℕ) (fresh : List Block) → block_chunk b < length s.codes
    → Joins has b (as_ledger s) (as_ledger (record s { codes = set s.codes (block_chunk b) Used; cursors = cursors; reserved = reserved; pins = s.pins ++ b ∷ []; fresh = fresh }))
unfolding as_ledger
joins s b cursors reserved fresh lt = record {
  chunks = length-set s.codes (block_chunk b) Used;
  used = get_or-set_same s.codes (block_chunk b) Used Reserved lt;
  codes = λ c ne. get_or-set_other s.codes (block_chunk b) c Used Reserved ne;
  live = λ d i. inl i;
  pins = λ d i. pushed s.pins b d i;
  held = inr (Contains-push s.pins b);
  roots = record { frozen_number = refl; frozen = same s.frozen; completed_number = refl; completed = same s.completed; queued = λ d i. i };
  pass = record { pass = refl; marked = same s.marked };
}

cursor-same : (cursors : Cursors) (size : SharedSize) (at : Option Cursor) → cursor_of (with_cursor cursors size at) size ≡ at
cursor-same cursors Small at = refl
cursor-same cursors Middle at = refl

cursor-other : (cursors : Cursors) (size k : SharedSize) (at : Option Cursor) → k ≢ size → cursor_of (with_cursor cursors size at) k ≡ cursor_of cursors k
cursor-other cursors Small Small at ne = absurd (ne refl)
cursor-other cursors Small Middle at ne = refl
cursor-other cursors Middle Small at ne = refl
cursor-other cursors Middle Middle at ne = absurd (ne refl)

-- a block behind a cursor with room begins in its chunk
next_chunk : (size : SharedSize) (at : Cursor) → at.used + 2 ^ radix_of size ≤ chunk_bytes → block_chunk (record { place = chunk_bytes * at.chunk + at.used; radix = radix_of size }) ≡ at.chunk
next_chunk size at room = let some : 0 < 2 ^ radix_of size = pow_pos (radix_of size) in omega arith

pub takes_next : (s t : State) (size : SharedSize) (b : Block) → IsTakenNext size b s t → TakesNext has size b (as_ledger s) (as_ledger t)
unfolding as_ledger
takes_next s t size b m = subst (λ z. TakesNext has size b (as_ledger s) (as_ledger z)) (sym m.new) (subst (λ z. TakesNext has size z (as_ledger s) (as_ledger (with_cursor_at (with_taken s z) size m.at.chunk (m.at.used + 2 ^ radix_of size)))) (sym m.block) made)
  where
    new : Block
    new = record { place = chunk_bytes * m.at.chunk + m.at.used; radix = radix_of size }

    made : TakesNext has size new (as_ledger s) (as_ledger (with_cursor_at (with_taken s new) size m.at.chunk (m.at.used + 2 ^ radix_of size)))
    made = record {
      place = record { radix = refl; old = m.at; was = m.room.0; at = refl; room = m.room.1.1 };
      joins = joins s new (with_cursor s.cursors size (Some (record { chunk = m.at.chunk; used = m.at.used + 2 ^ radix_of size }))) s.reserved (s.fresh ++ new ∷ []) (rw (next_chunk size m.at m.room.1.1) m.room.1.0);
      fresh = λ d i. pushed s.fresh new d i;
      moved = cursor-same s.cursors size (Some (record { chunk = m.at.chunk; used = m.at.used + 2 ^ radix_of size }));
      others = λ k ne. cursor-other s.cursors size k (Some (record { chunk = m.at.chunk; used = m.at.used + 2 ^ radix_of size })) ne;
      reserved = refl;
    }

at_lowest : (s : State) (payment : Payment) (b : Block) (reserved : ℕ) → IsTakenLowest payment b s reserved → IsAtLowest has b (as_ledger s)
unfolding as_ledger
at_lowest s payment b reserved m =
    let at : b.place ≡ chunk_bytes * m.chunk = m.at in
    let here : block_chunk b ≡ m.chunk = omega arith in
    record { at = rw here at; lowest = subst (IsLowestFree (code_at s.codes) (length s.codes)) (sym here) m.lowest }

paid : (s t : State) (payment : Payment) → buying.IsPaid s.codes s.reserved payment t.reserved → IsPaid has (as_ledger s) (as_ledger t)
unfolding as_ledger
paid s t FromReserved p = inl p
paid s t FromFree p = inr p

-- what is past the end of a list isn't free
in_list : (codes : List Code) (c : ℕ) → code_at codes c ≢ Reserved → c < length codes
in_list codes c ne = split (cases_lt c (length codes))
  where
    split : (c < length codes) ⊎ (length codes ≤ c) → c < length codes
    split (inl lt) = lt
    split (inr le) = absurd (ne (get_or-eq_default codes Reserved le))

pub takes_first : (s t : State) (size : SharedSize) (payment : Payment) (b : Block) → IsTakenFirst size payment b s t → TakesFirst has size b (as_ledger s) (as_ledger t)
unfolding as_ledger
takes_first s t size payment b m = subst (λ z. TakesFirst has size b (as_ledger s) (as_ledger z)) (sym m.new) (record {
  radix = m.radix;
  filled = λ old e. filled old (cursor_of s.cursors size) e m.filled;
  place = lowest;
  joins = joins s b (with_cursor s.cursors size (Some (record { chunk = block_chunk b; used = 2 ^ radix_of size }))) m.reserved (s.fresh ++ b ∷ []) lowest.lowest.in_volume;
  fresh = λ d i. pushed s.fresh b d i;
  paid = paid s (record (with_cursor_at (with_taken s b) size (block_chunk b) (2 ^ radix_of size)) { reserved = m.reserved }) payment m.place.paid;
  moved = cursor-same s.cursors size (Some (record { chunk = block_chunk b; used = 2 ^ radix_of size })) ∙ ap (λ (r : ℕ). Some (record { chunk = block_chunk b; used = 2 ^ r })) (sym m.radix);
  others = λ k ne. cursor-other s.cursors size k (Some (record { chunk = block_chunk b; used = 2 ^ radix_of size })) ne;
})
  where
    lowest : IsAtLowest has b (as_ledger s)
    lowest = at_lowest s payment b m.reserved m.place

    filled : (old : Cursor) (cursor : Option Cursor) → cursor ≡ Some old → IsFilledAt size cursor → chunk_bytes < old.used + block_bytes b
    filled old None e h = cc
    filled old (Some at) e h = let same_at : at ≡ old = cc in rw m.radix (subst (λ (z : Cursor). chunk_bytes < z.used + 2 ^ radix_of size) same_at h)

pub takes_whole : (s t : State) (payment : Payment) (b : Block) → IsTakenWhole payment b s t → TakesWhole has b (as_ledger s) (as_ledger t)
unfolding as_ledger
takes_whole s t payment b m = subst (λ z. TakesWhole has b (as_ledger s) (as_ledger z)) (sym m.new) (record {
  radix = m.radix;
  place = lowest;
  joins = joins s b s.cursors m.reserved (s.fresh ++ b ∷ []) lowest.lowest.in_volume;
  fresh = λ d i. pushed s.fresh b d i;
  paid = paid s (record (with_taken s b) { reserved = m.reserved }) payment m.place.paid;
  cursors = record { cursors = λ k. refl };
})
  where
    lowest : IsAtLowest has b (as_ledger s)
    lowest = at_lowest s payment b m.reserved m.place

pub adopts : (s : State) (b : Block) → IsShareable s.codes s.cursors b → Adopts has b (as_ledger s) (as_ledger (with_adopted s b))
unfolding as_ledger
adopts s b m = record {
  joins = joins s b s.cursors s.reserved s.fresh (in_list s.codes (block_chunk b) (not_reserved (code_at s.codes (block_chunk b)) m.1));
  fresh = λ d i. i;
  in_one_chunk = m.0;
  taken = m.1;
  apart = λ k at e. apart k at e;
  cursors = record { cursors = λ k. refl };
  reserved = refl;
}
  where
    not_reserved : (code : Code) → IsTaken code → code ≢ Reserved
    not_reserved code (inl p) e = cc
    not_reserved code (inr p) e = cc

    apart : (k : SharedSize) (at : Cursor) → cursor_of s.cursors k ≡ Some at → at.chunk ≢ block_chunk b
    apart Small at e = m.2 at e
    apart Middle at e = m.3 at e

pub adopts_to : (s t : State) (b : Block) → IsShareable s.codes s.cursors b → t ≡ with_adopted s b → Adopts has b (as_ledger s) (as_ledger t)
adopts_to s t b m e = subst (λ z. Adopts has b (as_ledger s) (as_ledger z)) (sym e) (adopts s b m)
