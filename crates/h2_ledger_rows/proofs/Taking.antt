-- Blocks are taken.
use Rattle.std.proofs.Common.{◌≡◌, ◌≢◌, ◌⊎◌, ◌<◌, ◌+◌, ◌*◌, ℕ, List, [], ◌∷◌, arith, ap, inl, inr, refl, Option, None, Some}
use Rattle.h2_num.specs.declared.block.Block.{Block}
use Rattle.h2_codes.specs.Free.{free_below}
use Rattle.h2_codes.specs.declared.cursor.Cursor.{Cursor}
use Rattle.h2_ledger.specs.declared.shared_size.SharedSize.{SharedSize}
use Rattle.h2_ledger.specs.declared.shared_size.SharedSize.TheVariants.{Small, Middle}
use Rattle.h2_ledger.specs.Moves.{TakesFirst, TakesNext, TakesWhole}
use Rattle.h2_ledger_rows.specs.Ledgers.{IsIn, block_of, chunk_block, old_tree, used_codes, opened}
use Rattle.h2_ledger_rows.specs.Sound.{cursor_at}
use Rattle.h2_ledger_rows.specs.Takes.{after_first, after_next, reserving, after_whole, full, after_full}
use Rattle.h2_ledger_rows.proofs.Blocks.{none_lower, free_count, other_codes}

no_cursor : (A : Type 0) (at : Cursor) → ◌≡◌ {A = Option Cursor} None (Some at) → A
no_cursor A at e = cc

-- at most the first block is new
new_one : (b d : Block) (tree : List Block) → IsIn d (b ∷ tree) → IsIn d tree ⊎ (d ≡ b)
new_one b d tree (inl e) = inr e
new_one b d tree (inr i) = inl i

is_paid : 0 < free_below used_codes 512
is_paid = let e : free_below used_codes 512 ≡ 253 = free_count in omega arith

pub takes_first : TakesFirst IsIn Small (block_of 259 0 10) opened after_first
takes_first = record {
  radix = refl;
  filled = λ old e. no_cursor (16384 < old.used + 1024) old e;
  place = record { at = refl; lowest = record { in_volume = omega arith; free = refl; lowest = none_lower } };
  joins = record {
    chunks = refl;
    used = refl;
    codes = λ c ne. other_codes c ne;
    live = λ d i. new_one (block_of 259 0 10) d old_tree i;
    pins = λ d i. inl i;
    held = inl (inl refl);
    roots = record { frozen_number = refl; frozen = λ b. (λ i. i, λ i. i); completed_number = refl; completed = λ b. (λ i. i, λ i. i); queued = λ b i. i };
    pass = record { pass = refl; marked = λ b. (λ i. i, λ i. i) };
  };
  fresh = λ d i. new_one (block_of 259 0 10) d [] i;
  paid = inr (refl, is_paid);
  moved = refl;
  others = others;
}
  where
    others : (k : SharedSize) → k ≢ Small → after_first.cursor k ≡ opened.cursor k
    others Small ne = absurd (ne refl)
    others Middle ne = refl

pub takes_next : TakesNext IsIn Small (block_of 259 1024 10) after_first after_next
takes_next = record {
  place = record { radix = refl; old = record { chunk = 259; used = 1024 }; was = refl; at = refl; room = omega arith };
  joins = record {
    chunks = refl;
    used = refl;
    codes = λ c ne. refl;
    live = λ d i. new_one (block_of 259 1024 10) d (block_of 259 0 10 ∷ old_tree) i;
    pins = λ d i. inl i;
    held = inl (inl refl);
    roots = record { frozen_number = refl; frozen = λ b. (λ i. i, λ i. i); completed_number = refl; completed = λ b. (λ i. i, λ i. i); queued = λ b i. i };
    pass = record { pass = refl; marked = λ b. (λ i. i, λ i. i) };
  };
  fresh = λ d i. new_one (block_of 259 1024 10) d (block_of 259 0 10 ∷ []) i;
  moved = refl;
  others = others;
  reserved = refl;
}
  where
    others : (k : SharedSize) → k ≢ Small → after_next.cursor k ≡ after_first.cursor k
    others Small ne = absurd (ne refl)
    others Middle ne = refl

pub takes_full : TakesNext IsIn Small (block_of 258 1024 10) full after_full
takes_full = record {
  place = record { radix = refl; old = record { chunk = 258; used = 1024 }; was = refl; at = refl; room = omega arith };
  joins = record {
    chunks = refl;
    used = refl;
    codes = λ c ne. refl;
    live = λ d i. new_one (block_of 258 1024 10) d old_tree i;
    pins = λ d i. inl i;
    held = inl (inl refl);
    roots = record { frozen_number = refl; frozen = λ b. (λ i. i, λ i. i); completed_number = refl; completed = λ b. (λ i. i, λ i. i); queued = λ b i. i };
    pass = record { pass = refl; marked = λ b. (λ i. i, λ i. i) };
  };
  fresh = λ d i. new_one (block_of 258 1024 10) d [] i;
  moved = refl;
  others = others;
  reserved = refl;
}
  where
    others : (k : SharedSize) → k ≢ Small → after_full.cursor k ≡ full.cursor k
    others Small ne = absurd (ne refl)
    others Middle ne = refl

pub takes_whole : TakesWhole IsIn (chunk_block 259) opened (after_whole 0)
takes_whole = record {
  radix = refl;
  place = record { at = refl; lowest = record { in_volume = omega arith; free = refl; lowest = none_lower } };
  joins = record {
    chunks = refl;
    used = refl;
    codes = λ c ne. other_codes c ne;
    live = λ d i. new_one (chunk_block 259) d old_tree i;
    pins = λ d i. inl i;
    held = inl (inl refl);
    roots = record { frozen_number = refl; frozen = λ b. (λ i. i, λ i. i); completed_number = refl; completed = λ b. (λ i. i, λ i. i); queued = λ b i. i };
    pass = record { pass = refl; marked = λ b. (λ i. i, λ i. i) };
  };
  fresh = λ d i. new_one (chunk_block 259) d [] i;
  paid = inr (refl, is_paid);
  cursors = record { cursors = cursors };
}
  where
    cursors : (k : SharedSize) → (after_whole 0).cursor k ≡ opened.cursor k
    cursors Small = refl
    cursors Middle = refl

pub takes_reserved : TakesWhole IsIn (chunk_block 259) (reserving 253) (after_whole 252)
takes_reserved = record {
  radix = refl;
  place = record { at = refl; lowest = record { in_volume = omega arith; free = refl; lowest = none_lower } };
  joins = record {
    chunks = refl;
    used = refl;
    codes = λ c ne. other_codes c ne;
    live = λ d i. new_one (chunk_block 259) d old_tree i;
    pins = λ d i. inl i;
    held = inl (inl refl);
    roots = record { frozen_number = refl; frozen = λ b. (λ i. i, λ i. i); completed_number = refl; completed = λ b. (λ i. i, λ i. i); queued = λ b i. i };
    pass = record { pass = refl; marked = λ b. (λ i. i, λ i. i) };
  };
  fresh = λ d i. new_one (chunk_block 259) d [] i;
  paid = inl refl;
  cursors = record { cursors = λ k. refl };
}

-- where a cursor is
place_in : Option Cursor → ℕ
place_in (Some at) = 16384 * at.chunk + at.used
place_in None = 0

pub cursor_place : (chunk used : ℕ) (old : Cursor) → cursor_at chunk used ≡ Some old → 16384 * chunk + used ≡ 16384 * old.chunk + old.used
unfolding place_in
cursor_place chunk used old e = ap place_in e
