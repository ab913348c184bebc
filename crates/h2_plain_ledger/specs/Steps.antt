-- What each function makes of a plain ledger, and when it refuses.
use Rattle.std.specs.Prelude.{Option, Some, None, List, [], ◌∷◌, ◌++◌, ℕ, suc, ◌≡◌, ◌≢◌, ◌⊎◌, ◌<◌, ◌≤◌, ◌*◌, ◌+◌, ◌^◌, length, slice_set, IsSome}
use Rattle.h2_num.specs.declared.block.Block.{Block}
use Rattle.h2_geom.specs.Geometry.{chunk_bytes, segment_chunks}
use Rattle.h2_codes.specs.declared.code.Code.{Code}
use Rattle.h2_codes.specs.declared.code.Code.TheVariants.{Used}
use Rattle.h2_codes.specs.Codes.{code_at}
use Rattle.h2_ledger.specs.declared.shared_size.SharedSize.{SharedSize}
use Rattle.h2_codes.specs.declared.cursor.Cursor.{Cursor}
use Rattle.h2_ledger.specs.declared.pass.Pass.{Pass}
use Rattle.h2_ledger.specs.declared.pass.Pass.TheVariants.{Idle, Begun, Marked, Scanning}
use Rattle.h2_codes.specs.Free.{free_below, IsLowestFree}
use Rattle.h2_ledger.specs.Ledger.{Ledger, IsTaken, LiesInOneChunk, block_chunk}
use Rattle.h2_ledger.specs.Moves.{radix_of, apply, Makes}
use Rattle.h2_plain_ledger.specs.declared.cursors.Cursors.{Cursors}
use Rattle.h2_plain_ledger.specs.declared.buying.Payment.{Payment}
use Rattle.h2_plain_ledger.specs.Buying.{IsPaid}
use Rattle.h2_plain_ledger.specs.State.{State, cursor_of, with_cursor, HasRoomAt, IsFilledAt, unless_free, IsApplied, has}

-- the ledger of a volume that was just opened, with an empty tree
abbrev pub opened : List Code → ℕ → State
opened codes number = record {
  codes = codes;
  cursors = record { small = None; middle = None };
  reserved = 0;
  live = [];
  pins = [];
  frozen_number = None;
  frozen = [];
  completed_number = number;
  completed = [];
  pass = Idle;
  marked = [];
  fresh = [];
  queued = [];
}

-- how many chunks are free
abbrev pub free_of : State → ℕ
free_of s = free_below (code_at s.codes) (length s.codes)

-- a block is pinned and fresh, and its chunk is used
abbrev pub with_taken : State → Block → State
with_taken s b = record s { codes = slice_set s.codes (block_chunk b) Used; pins = s.pins ++ b ∷ []; fresh = s.fresh ++ b ∷ [] }

-- a block is pinned, and its chunk is used
abbrev pub with_adopted : State → Block → State
with_adopted s b = record s { codes = slice_set s.codes (block_chunk b) Used; pins = s.pins ++ b ∷ [] }

-- the cursor of a size is in a chunk, behind so many bytes
abbrev pub with_cursor_at : State → SharedSize → ℕ → ℕ → State
with_cursor_at s size chunk used = record s { cursors = with_cursor s.cursors size (Some (record { chunk = chunk; used = used })) }

-- the cursor of the size is this one, and has room for a block
abbrev pub HasRoom : State → SharedSize → Cursor → Type 0
HasRoom s size at = (cursor_of s.cursors size ≡ Some at) × HasRoomAt size (length s.codes) at

-- a block of a shared size was taken at its cursor, which moved on
pub record IsTakenNext (size : SharedSize) (b : Block) (s t : State) : Type 0 where
  pub at : Cursor
  pub room : HasRoom s size at
  pub block : b ≡ record { place = chunk_bytes * at.chunk + at.used; radix = radix_of size }
  pub new : t ≡ with_cursor_at (with_taken s b) size at.chunk (at.used + 2 ^ radix_of size)

-- the block was taken in the lowest free chunk, which was paid for
pub record IsTakenLowest (payment : Payment) (b : Block) (s : State) (reserved : ℕ) : Type 0 where
  pub chunk : ℕ
  pub at : b.place ≡ chunk_bytes * chunk
  pub lowest : IsLowestFree (code_at s.codes) (length s.codes) chunk
  pub paid : IsPaid s.codes s.reserved payment reserved

-- a block of a shared size was taken in the lowest free chunk, which got the cursor
pub record IsTakenFirst (size : SharedSize) (payment : Payment) (b : Block) (s t : State) : Type 0 where
  pub filled : IsFilledAt size (cursor_of s.cursors size)
  pub radix : b.radix ≡ radix_of size
  pub reserved : ℕ
  pub place : IsTakenLowest payment b s reserved
  pub new : t ≡ record (with_cursor_at (with_taken s b) size (block_chunk b) (2 ^ radix_of size)) { reserved = reserved }

-- the lowest free chunk was taken whole
pub record IsTakenWhole (payment : Payment) (b : Block) (s t : State) : Type 0 where
  pub radix : b.radix ≡ 14
  pub reserved : ℕ
  pub place : IsTakenLowest payment b s reserved
  pub new : t ≡ record (with_taken s b) { reserved = reserved }

-- the cursor isn't in the chunk
abbrev pub IsElsewhere : Option Cursor → ℕ → Type 0
IsElsewhere cursor chunk = (at : Cursor) → cursor ≡ Some at → at.chunk ≢ chunk

-- the block may be shared: it lies in one chunk, which is staged or used, and no cursor is in it
abbrev pub IsShareable : List Code → Cursors → Block → Type 0
IsShareable codes cursors b = LiesInOneChunk b × IsTaken (code_at codes (block_chunk b)) × IsElsewhere cursors.small (block_chunk b) × IsElsewhere cursors.middle (block_chunk b)

-- a flush is under way, or the numbers are used up
abbrev pub CannotFreeze : State → Type 0
CannotFreeze s = IsSome s.frozen_number ⊎ (2 ^ 64 ≤ suc s.completed_number)

-- what was live is frozen under the next number, and what was fresh is yet to be written
abbrev pub with_frozen : State → State
with_frozen s = record s { frozen_number = Some (suc s.completed_number); frozen = s.live; queued = s.fresh; fresh = [] }

-- and what was live or pinned is marked by the pass of that number
abbrev pub with_marked : State → State
with_marked s = record (with_frozen s) { pass = Marked (suc s.completed_number); marked = s.live ++ s.pins }

-- the frozen root, with its number, is the completed one
pub record IsCompleted (s t : State) : Type 0 where
  pub was : s.frozen_number ≡ Some t.completed_number
  pub new : t ≡ record s { frozen_number = None; frozen = []; completed_number = t.completed_number; completed = s.frozen; queued = [] }

-- the pass has had its own freeze, and the header of that freeze is out
abbrev pub MayScan : State → Type 0
MayScan s = (number : ℕ) × (s.pass ≡ Marked number) × (number ≤ s.completed_number)

-- the pass scans, and has applied nothing
pub record IsScanning (s t : State) : Type 0 where
  pub number : ℕ
  pub was : s.pass ≡ Marked number
  pub new : t ≡ record s { pass = Scanning number 0 }

-- the pass runs and has applied nothing
abbrev pub MayEnd : Pass → Type 0
MayEnd Idle = ⊥
MayEnd Begun = Unit {0}
MayEnd (Marked number) = Unit {0}
MayEnd (Scanning number applied) = applied ≡ 0

-- the pass scans, and the volume has the segment that comes next
abbrev pub MayApply : State → Type 0
MayApply s = (number : ℕ) × (segment : ℕ) × (s.pass ≡ Scanning number segment) × (segment_chunks * suc segment ≤ length s.codes)

-- the pass goes on with the next segment, or ends with the last one
pub record IsPassAfter (number segment chunks : ℕ) (pass : Pass) : Type 0 where
  pub goes_on : segment_chunks * suc segment < chunks → pass ≡ Scanning number (suc segment)
  pub ends : segment_chunks * suc segment ≡ chunks → pass ≡ Idle

-- the codes of the next segment are applied, cursors in free chunks are forgotten, and the pass goes on
pub record IsAppliedNext (s t : State) : Type 0 where
  pub number : ℕ
  pub segment : ℕ
  pub was : s.pass ≡ Scanning number segment
  pub in_volume : segment_chunks * suc segment ≤ length s.codes
  pub codes : IsApplied s.marked (segment_chunks * segment) segment_chunks s.codes t.codes
  pub small : t.cursors.small ≡ unless_free t.codes s.cursors.small
  pub middle : t.cursors.middle ≡ unless_free t.codes s.cursors.middle
  pub pass : IsPassAfter number segment (length s.codes) t.pass
  pub new : t ≡ record s { codes = t.codes; cursors = t.cursors; pass = t.pass }

-- some pass applies a segment
abbrev pub MakesApply : Ledger (List Block) → Ledger (List Block) → Type 0
MakesApply x y = (number : ℕ) × (segment : ℕ) × Makes has (apply number segment) x y
