-- What a copy-on-write volume keeps of its space: the code of each chunk, and which blocks are in use by whom.
-- Sets of blocks are values of a type `Set` that the reader chooses, with `b ∈ s` for its members.
use Rattle.std.specs.Prelude.{ℕ, ◌≡◌, ◌⊎◌, ◌+◌, ◌%◌, ◌^◌, ◌≤◌, Option, Some}
use Rattle.h2_num.specs.declared.block.Block.{Block}
use Rattle.h2_geom.specs.Geometry.{chunk_bytes, chunk_of}
use Rattle.h2_geom.specs.Places.{IsApart}
use Rattle.h2_codes.specs.declared.code.Code.{Code}
use Rattle.h2_codes.specs.declared.code.Code.TheVariants.{Staged, Used}
use Rattle.h2_ledger.specs.declared.shared_size.SharedSize.{SharedSize}
use Rattle.h2_codes.specs.declared.cursor.Cursor.{Cursor}
use Rattle.h2_ledger.specs.declared.pass.Pass.{Pass}
use Rattle.h2_ledger.specs.declared.pass.Pass.TheVariants.{Marked, Scanning}

-- the bytes of a block
abbrev pub block_bytes : Block → ℕ
block_bytes b = 2 ^ b.radix

-- the chunk in which a block begins
abbrev pub block_chunk : Block → ℕ
block_chunk b = chunk_of b.place

-- the block doesn't cross the end of its chunk
abbrev pub LiesInOneChunk : Block → Type 0
LiesInOneChunk b = b.place % chunk_bytes + block_bytes b ≤ chunk_bytes

-- no byte belongs to both
abbrev pub AreDisjoint : Block → Block → Type 0
AreDisjoint a b = IsApart a.place (block_bytes a) b.place (block_bytes b)

-- the code is that of a chunk with something in it
abbrev pub IsTaken : Code → Type 0
IsTaken code = (code ≡ Staged) ⊎ (code ≡ Used)

-- the pass with this number has marked what was in use at its freeze, and has applied this many segments
abbrev pub HasMarked : Pass → ℕ → ℕ → Type 0
HasMarked pass number applied = ((pass ≡ Marked number) × (applied ≡ 0)) ⊎ (pass ≡ Scanning number applied)

-- what a volume keeps of its space at a moment
pub record Ledger (Set : Type 0) : Type 0 where
  -- how many chunks the volume has, and the code of each
  pub chunks : ℕ
  pub code : ℕ → Code
  -- where the next block of each shared size goes, if there is a chunk for it
  pub cursor : SharedSize → Option Cursor
  -- how many chunks running commands have reserved and not yet taken
  pub reserved : ℕ
  -- the blocks that the live root leads to
  pub live : Set
  -- the blocks that running commands hold
  pub pins : Set
  -- the root that the flush under way has frozen; without a number there is no such flush
  pub frozen_number : Option ℕ
  pub frozen : Set
  -- the root of the newest completed header
  pub completed_number : ℕ
  pub completed : Set
  -- how far the pass of bulkfree has come
  pub pass : Pass
  -- what the running pass marked at its freeze
  pub marked : Set
  -- of what was taken since the last freeze, what the next flush has to write: no header leads there yet
  pub fresh : Set
  -- what the flush under way has yet to write: it was fresh at the freeze
  pub queued : Set

module _ {Set : Type 0} (◌∈◌ : Block → Set → Type 0) where
  infix 40 ◌∈◌
  -- some block of the set lies in the chunk
  abbrev pub HasBlockIn : Set → ℕ → Type 0
  HasBlockIn set chunk = (b : Block) × (b ∈ set) × (block_chunk b ≡ chunk)

  -- a flush is under way, and the block belongs to its root
  abbrev pub IsFrozen : Ledger Set → Block → Type 0
  IsFrozen l b = (m : ℕ) × (l.frozen_number ≡ Some m) × (b ∈ l.frozen)

  -- in use: by the live tree, a running command, the root that is being flushed, or the newest header
  pub data IsInUse (l : Ledger Set) (b : Block) : Type 0 where
    by_live : b ∈ l.live → IsInUse l b
    by_pin : b ∈ l.pins → IsInUse l b
    by_frozen : IsFrozen l b → IsInUse l b
    by_completed : b ∈ l.completed → IsInUse l b

  -- in use by the live tree, a running command, or a root that was frozen with at least this number
  pub data IsInUseSince (n : ℕ) (l : Ledger Set) (b : Block) : Type 0 where
    since_live : b ∈ l.live → IsInUseSince n l b
    since_pin : b ∈ l.pins → IsInUseSince n l b
    since_frozen : (m : ℕ) → l.frozen_number ≡ Some m → n ≤ m → b ∈ l.frozen → IsInUseSince n l b
    since_completed : n ≤ l.completed_number → b ∈ l.completed → IsInUseSince n l b

  -- the running pass has marked the block
  abbrev pub IsMarked : Ledger Set → Block → Type 0
  IsMarked l b = (n : ℕ) × (s : ℕ) × HasMarked l.pass n s × (b ∈ l.marked)
