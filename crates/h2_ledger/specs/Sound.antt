-- What every move keeps.
use Rattle.std.specs.Prelude.{ℕ, suc, ◌≡◌, ◌⊎◌, ◌+◌, ◌*◌, ◌≤◌, ◌<◌, Some}
use Rattle.h2_num.specs.declared.block.Block.{Block}
use Rattle.h2_geom.specs.Geometry.{chunk_bytes, segment_of}
use Rattle.h2_codes.specs.declared.code.Code.TheVariants.{Used}
use Rattle.h2_ledger.specs.declared.shared_size.SharedSize.{SharedSize}
use Rattle.h2_codes.specs.declared.cursor.Cursor.{Cursor}
use Rattle.h2_ledger.specs.declared.pass.Pass.TheVariants.{Scanning}
use Rattle.h2_codes.specs.Free.{free_below}
use Rattle.h2_ledger.specs.Ledger.{block_bytes, block_chunk, LiesInOneChunk, AreDisjoint, IsTaken, HasMarked, Ledger, HasBlockIn, IsFrozen, IsInUse, IsInUseSince, IsMarked}

module _ {Set : Type 0} (◌∈◌ : Block → Set → Type 0) where
  infix 40 ◌∈◌
  -- what always holds: each move keeps it, and it holds when a volume is opened
  pub record IsSound (l : Ledger Set) : Type 0 where
    -- the chunk of a block in use is staged or used: nothing in use counts as free
    pub covered : (b : Block) → IsInUse ◌∈◌ l b → IsTaken (l.code (block_chunk b))
    -- a block in use or marked doesn't cross the end of its chunk
    pub in_one_chunk : (b : Block) → IsInUse ◌∈◌ l b ⊎ IsMarked ◌∈◌ l b → LiesInOneChunk b
    -- while a pass runs, a chunk that it hasn't applied and that has a block in use since its freeze was marked, or is used:
    -- an older block was in use at the freeze, and a younger one made its chunk used when it was taken
    pub marked_or_used : (n s : ℕ) → HasMarked l.pass n s → (b : Block) → IsInUseSince ◌∈◌ n l b → s ≤ segment_of (block_chunk b)
        → HasBlockIn ◌∈◌ l.marked (block_chunk b) ⊎ (l.code (block_chunk b) ≡ Used)
    -- the chunk of a marked block is staged or used
    pub marked_covered : (n s : ℕ) → HasMarked l.pass n s → (b : Block) → b ∈ l.marked → IsTaken (l.code (block_chunk b))
    -- a pass that scans has its own header out, so that no older root is the newest completed one
    pub scans_after_header : (n s : ℕ) → l.pass ≡ Scanning n s → n ≤ l.completed_number
    -- a flush under way writes the header after the newest completed one
    pub frozen_is_next : (m : ℕ) → l.frozen_number ≡ Some m → m ≡ suc l.completed_number
    -- blocks in a cursor's chunk, in use or marked, end at or below the cursor
    pub below_cursor : (k : SharedSize) (at : Cursor) → l.cursor k ≡ Some at → (b : Block) → IsInUse ◌∈◌ l b ⊎ IsMarked ◌∈◌ l b → block_chunk b ≡ at.chunk
        → b.place + block_bytes b ≤ chunk_bytes * at.chunk + at.used
    -- a cursor's chunk is staged or used: it isn't handed out a second time, and isn't a reserved one
    pub cursor_taken : (k : SharedSize) (at : Cursor) → l.cursor k ≡ Some at → IsTaken (l.code at.chunk)
    -- the two cursors are in different chunks
    pub cursors_apart : (j k : SharedSize) (a b : Cursor) → l.cursor j ≡ Some a → l.cursor k ≡ Some b → a.chunk ≡ b.chunk → j ≡ k
    -- what is reserved is there
    pub reserved_is_free : l.reserved ≤ free_below l.code l.chunks

  -- what is fresh or queued (taken since the last freeze, or waiting to be written by the flush under way) shares no byte with what a header leads to or
  -- the pass marked
  pub record UnwrittenIsApart (l : Ledger Set) : Type 0 where
    -- a fresh block shares no byte with the newest completed root
    pub fresh_completed : (a b : Block) → a ∈ l.fresh → b ∈ l.completed → AreDisjoint a b
    -- nor with the root that is being flushed
    pub fresh_frozen : (a b : Block) → a ∈ l.fresh → IsFrozen ◌∈◌ l b → AreDisjoint a b
    -- nor with what the running pass marked
    pub fresh_marked : (a b : Block) → a ∈ l.fresh → IsMarked ◌∈◌ l b → AreDisjoint a b
    -- a queued block shares no byte with the newest completed root, to which a power cut may lead back
    pub queued_completed : (a b : Block) → a ∈ l.queued → b ∈ l.completed → AreDisjoint a b
    -- nor with what the running pass marked, where the flush was frozen after the pass's own freeze
    pub queued_marked : (n s m : ℕ) → HasMarked l.pass n s → l.frozen_number ≡ Some m → n < m → (a b : Block) → a ∈ l.queued → b ∈ l.marked → AreDisjoint a b
