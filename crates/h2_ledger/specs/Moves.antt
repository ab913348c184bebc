-- The moves by which a volume changes its ledger. A move says of each part of the ledger what it is afterwards.
-- Of live blocks, pins and blocks yet to be written it says only which may be there afterwards: letting go is always allowed.
use Rattle.std.specs.Prelude.{ℕ, suc, ◌≡◌, ◌≢◌, ◌⊎◌, ◌+◌, ◌*◌, ◌≤◌, ◌<◌, Some, None}
use Rattle.h2_num.specs.declared.block.Block.{Block}
use Rattle.h2_geom.specs.Geometry.{chunk_bytes, segment_chunks, segment_of}
use Rattle.h2_codes.specs.Bulkfree.{seen_code, unseen_code}
use Rattle.h2_codes.specs.declared.code.Code.TheVariants.{Free, Used}
use Rattle.h2_ledger.specs.declared.shared_size.SharedSize.{SharedSize}
use Rattle.h2_ledger.specs.declared.shared_size.SharedSize.TheVariants.{Small, Middle}
use Rattle.h2_codes.specs.declared.cursor.Cursor.{Cursor}
use Rattle.h2_ledger.specs.declared.pass.Pass.TheVariants.{Idle, Begun, Marked, Scanning}
use Rattle.h2_codes.specs.Free.{free_below, IsLowestFree}
use Rattle.h2_ledger.specs.Ledger.{block_bytes, block_chunk, LiesInOneChunk, IsTaken, HasMarked, Ledger, HasBlockIn}

-- which move is made
pub data Move : Type 0 where
  -- a block is taken: of a shared size at its cursor; of a shared size in a free chunk, which gets the cursor; a whole chunk
  take_next : (size : SharedSize) → (taken : Block) → Move
  take_first : (size : SharedSize) → (taken : Block) → Move
  take_whole : (taken : Block) → Move
  -- a block that is there already is shared
  adopt : (adopted : Block) → Move
  -- the live tree changes, and pins end
  relink : Move
  -- a reservation begins or ends
  reserve : Move
  -- the live root is frozen for a flush; the same as the freeze of a pass, which marks what is in use
  freeze : Move
  freeze_of_pass : Move
  -- the header of the frozen root is out and durable
  complete : Move
  -- a pass of bulkfree begins, begins its scan, ends
  begin_pass : Move
  begin_scan : Move
  end_pass : Move
  -- a pass applies one segment
  apply : (number segment : ℕ) → Move

-- the radix of a block of a shared size: 1 KiB or 4 KiB
abbrev pub radix_of : SharedSize → ℕ
radix_of Small = 10
radix_of Middle = 12

module _ {Set : Type 0} (◌∈◌ : Block → Set → Type 0) where
  infix 40 ◌∈◌
  -- the same members
  abbrev pub Same : Set → Set → Type 0
  Same s t = (b : Block) → (b ∈ s → b ∈ t) × (b ∈ t → b ∈ s)

  -- no member but those of the other
  abbrev pub Within : Set → Set → Type 0
  Within s t = (b : Block) → b ∈ s → b ∈ t

  -- at most this one block is new
  abbrev pub WithinAnd : Set → Set → Block → Type 0
  WithinAnd s t new = (b : Block) → b ∈ s → (b ∈ t) ⊎ (b ≡ new)

  -- the volume's chunks and their codes stay
  pub record CodesStay (x y : Ledger Set) : Type 0 where
    pub chunks : y.chunks ≡ x.chunks
    pub codes : (c : ℕ) → y.code c ≡ x.code c

  -- the cursors stay
  pub record CursorsStay (x y : Ledger Set) : Type 0 where
    pub cursors : (k : SharedSize) → y.cursor k ≡ x.cursor k

  -- the frozen and the completed root stay, and nothing more is yet to be written for the frozen one
  pub record RootsStay (x y : Ledger Set) : Type 0 where
    pub frozen_number : y.frozen_number ≡ x.frozen_number
    pub frozen : Same y.frozen x.frozen
    pub completed_number : y.completed_number ≡ x.completed_number
    pub completed : Same y.completed x.completed
    pub queued : Within y.queued x.queued

  -- the pass and what it marked stay
  pub record PassStays (x y : Ledger Set) : Type 0 where
    pub pass : y.pass ≡ x.pass
    pub marked : Same y.marked x.marked

  -- nothing is live, pinned or fresh that wasn't
  pub record UsesLessen (x y : Ledger Set) : Type 0 where
    pub live : Within y.live x.live
    pub pins : Within y.pins x.pins
    pub fresh : Within y.fresh x.fresh

  -- a block was taken or adopted: its chunk is used, and the block is live or pinned
  pub record Joins (b : Block) (x y : Ledger Set) : Type 0 where
    pub chunks : y.chunks ≡ x.chunks
    pub used : y.code (block_chunk b) ≡ Used
    pub codes : (c : ℕ) → c ≢ block_chunk b → y.code c ≡ x.code c
    pub live : WithinAnd y.live x.live b
    pub pins : WithinAnd y.pins x.pins b
    pub held : (b ∈ y.live) ⊎ (b ∈ y.pins)
    pub roots : RootsStay x y
    pub pass : PassStays x y

  -- where the next block of a shared size goes: to its cursor
  pub record IsAtCursor (size : SharedSize) (b : Block) (x : Ledger Set) : Type 0 where
    pub radix : b.radix ≡ radix_of size
    pub old : Cursor
    pub was : x.cursor size ≡ Some old
    pub at : b.place ≡ chunk_bytes * old.chunk + old.used
    pub room : old.used + block_bytes b ≤ chunk_bytes

  -- there is no cursor of the size, or its chunk is filled
  abbrev pub IsFilled : SharedSize → Block → Ledger Set → Type 0
  IsFilled size b x = (old : Cursor) → x.cursor size ≡ Some old → chunk_bytes < old.used + block_bytes b

  -- where the first block of a chunk goes: to the lowest chunk that is free
  pub record IsAtLowest (b : Block) (x : Ledger Set) : Type 0 where
    pub at : b.place ≡ chunk_bytes * block_chunk b
    pub lowest : IsLowestFree x.code x.chunks (block_chunk b)

  -- a free chunk is paid for by a reservation, or is free beyond all that is reserved
  abbrev pub IsPaid : Ledger Set → Ledger Set → Type 0
  IsPaid x y = (suc y.reserved ≡ x.reserved) ⊎ ((y.reserved ≡ x.reserved) × (x.reserved < free_below x.code x.chunks))

  -- a block of a shared size is taken at its cursor, which moves behind it
  pub record TakesNext (size : SharedSize) (b : Block) (x y : Ledger Set) : Type 0 where
    pub place : IsAtCursor size b x
    pub joins : Joins b x y
    pub fresh : WithinAnd y.fresh x.fresh b
    pub moved : y.cursor size ≡ Some (record { chunk = place.old.chunk; used = place.old.used + block_bytes b })
    pub others : (k : SharedSize) → k ≢ size → y.cursor k ≡ x.cursor k
    pub reserved : y.reserved ≡ x.reserved

  -- a block of a shared size is taken in the lowest free chunk, which gets the cursor, since the cursor's chunk is filled
  pub record TakesFirst (size : SharedSize) (b : Block) (x y : Ledger Set) : Type 0 where
    pub radix : b.radix ≡ radix_of size
    pub filled : IsFilled size b x
    pub place : IsAtLowest b x
    pub joins : Joins b x y
    pub fresh : WithinAnd y.fresh x.fresh b
    pub paid : IsPaid x y
    pub moved : y.cursor size ≡ Some (record { chunk = block_chunk b; used = block_bytes b })
    pub others : (k : SharedSize) → k ≢ size → y.cursor k ≡ x.cursor k

  -- a block of a whole chunk is taken: the lowest free one
  pub record TakesWhole (b : Block) (x y : Ledger Set) : Type 0 where
    pub radix : b.radix ≡ 14
    pub place : IsAtLowest b x
    pub joins : Joins b x y
    pub fresh : WithinAnd y.fresh x.fresh b
    pub paid : IsPaid x y
    pub cursors : CursorsStay x y

  -- the ledger gives this block for the next one of its size, before anything has changed
  pub data IsGranted (b : Block) (x : Ledger Set) : Type 0 where
    at_cursor : (size : SharedSize) → IsAtCursor size b x → IsGranted b x
    at_lowest : (size : SharedSize) → b.radix ≡ radix_of size → IsAtLowest b x → IsGranted b x
    at_whole : b.radix ≡ 14 → IsAtLowest b x → IsGranted b x

  -- a block outside the cursors' chunks, in a chunk that is staged or used
  pub record Adopts (b : Block) (x y : Ledger Set) : Type 0 where
    pub joins : Joins b x y
    pub fresh : Within y.fresh x.fresh
    pub in_one_chunk : LiesInOneChunk b
    pub taken : IsTaken (x.code (block_chunk b))
    pub apart : (k : SharedSize) (old : Cursor) → x.cursor k ≡ Some old → old.chunk ≢ block_chunk b
    pub cursors : CursorsStay x y
    pub reserved : y.reserved ≡ x.reserved

  -- the live tree afterwards lies in the live tree and the pins before
  pub record Relinks (x y : Ledger Set) : Type 0 where
    pub live : (b : Block) → b ∈ y.live → (b ∈ x.live) ⊎ (b ∈ x.pins)
    pub pins : Within y.pins x.pins
    pub fresh : Within y.fresh x.fresh
    pub codes : CodesStay x y
    pub cursors : CursorsStay x y
    pub reserved : y.reserved ≡ x.reserved
    pub roots : RootsStay x y
    pub pass : PassStays x y

  -- a reservation ends, or begins with no more than is free beyond the others
  pub record Reserves (x y : Ledger Set) : Type 0 where
    pub enough : (y.reserved ≤ x.reserved) ⊎ (y.reserved ≤ free_below x.code x.chunks)
    pub uses : UsesLessen x y
    pub codes : CodesStay x y
    pub cursors : CursorsStay x y
    pub roots : RootsStay x y
    pub pass : PassStays x y

  -- the live root is frozen under the next number; what was fresh is now yet to be written
  pub record Freezes (x y : Ledger Set) : Type 0 where
    pub idle : x.frozen_number ≡ None
    pub number : y.frozen_number ≡ Some (suc x.completed_number)
    pub frozen : Same y.frozen x.live
    pub queued : Within y.queued x.fresh
    pub none_fresh : (b : Block) → b ∈ y.fresh → ⊥
    pub completed_number : y.completed_number ≡ x.completed_number
    pub completed : Same y.completed x.completed
    pub uses : UsesLessen x y
    pub codes : CodesStay x y
    pub cursors : CursorsStay x y
    pub reserved : y.reserved ≡ x.reserved

  -- a freeze that is no pass's own
  pub record FreezesAlone (x y : Ledger Set) : Type 0 where
    pub freezes : Freezes x y
    pub pass : PassStays x y

  -- the freeze of a pass that has begun, which marks what is live and what is pinned
  pub record FreezesOfPass (x y : Ledger Set) : Type 0 where
    pub freezes : Freezes x y
    pub begun : x.pass ≡ Begun
    pub pass : y.pass ≡ Marked (suc x.completed_number)
    pub marked : (b : Block) → (b ∈ y.marked → (b ∈ x.live) ⊎ (b ∈ x.pins)) × ((b ∈ x.live) ⊎ (b ∈ x.pins) → b ∈ y.marked)

  -- the frozen root is the newest completed one, and no flush is under way
  pub record Completes (x y : Ledger Set) : Type 0 where
    pub was : x.frozen_number ≡ Some y.completed_number
    pub completed : Same y.completed x.frozen
    pub frozen_number : y.frozen_number ≡ None
    pub none_queued : (b : Block) → b ∈ y.queued → ⊥
    pub uses : UsesLessen x y
    pub codes : CodesStay x y
    pub cursors : CursorsStay x y
    pub reserved : y.reserved ≡ x.reserved
    pub pass : PassStays x y

  -- all but the pass stays
  pub record OnlyPass (x y : Ledger Set) : Type 0 where
    pub uses : UsesLessen x y
    pub codes : CodesStay x y
    pub cursors : CursorsStay x y
    pub reserved : y.reserved ≡ x.reserved
    pub roots : RootsStay x y

  -- a pass begins where none runs
  pub record BeginsPass (x y : Ledger Set) : Type 0 where
    pub only : OnlyPass x y
    pub was : x.pass ≡ Idle
    pub now : y.pass ≡ Begun

  -- the scan begins, once the header of the pass's own freeze is out
  pub record BeginsScan (x y : Ledger Set) : Type 0 where
    pub only : OnlyPass x y
    pub number : ℕ
    pub was : x.pass ≡ Marked number
    pub now : y.pass ≡ Scanning number 0
    pub out : number ≤ x.completed_number
    pub marked : Same y.marked x.marked

  -- a pass is given up, which it may be only while it has applied nothing
  pub record EndsPass (x y : Ledger Set) : Type 0 where
    pub only : OnlyPass x y
    pub runs : x.pass ≢ Idle
    pub unapplied : (n s : ℕ) → HasMarked x.pass n s → s ≡ 0
    pub now : y.pass ≡ Idle

  -- a scanning pass applies the next segment: codes change by whether something that was marked lies in the chunk
  pub record Applies (number segment : ℕ) (x y : Ledger Set) : Type 0 where
    pub was : x.pass ≡ Scanning number segment
    pub chunks : y.chunks ≡ x.chunks
    pub in_volume : segment_chunks * suc segment ≤ x.chunks
    pub applied : (c : ℕ) → segment_of c ≡ segment
        → (HasBlockIn ◌∈◌ x.marked c × (y.code c ≡ seen_code (x.code c))) ⊎ ((HasBlockIn ◌∈◌ x.marked c → ⊥) × (y.code c ≡ unseen_code (x.code c)))
    pub elsewhere : (c : ℕ) → segment_of c ≢ segment → y.code c ≡ x.code c
    -- a cursor is forgotten where its chunk is free now, and stays elsewhere
    pub kept : (k : SharedSize) (old : Cursor) → x.cursor k ≡ Some old → y.code old.chunk ≢ Free → y.cursor k ≡ Some old
    pub forgotten : (k : SharedSize) (new : Cursor) → y.cursor k ≡ Some new → (x.cursor k ≡ Some new) × (y.code new.chunk ≢ Free)
    pub reserved : y.reserved ≡ x.reserved
    pub uses : UsesLessen x y
    pub roots : RootsStay x y
    pub marked : Same y.marked x.marked
    -- the last segment ends the pass
    pub goes_on : segment_chunks * suc segment < x.chunks → y.pass ≡ Scanning number (suc segment)
    pub ends : segment_chunks * suc segment ≡ x.chunks → y.pass ≡ Idle

  -- the move leads from the first ledger to the second
  abbrev pub Makes : Move → Ledger Set → Ledger Set → Type 0
  Makes (take_next size b) x y = TakesNext size b x y
  Makes (take_first size b) x y = TakesFirst size b x y
  Makes (take_whole b) x y = TakesWhole b x y
  Makes (adopt b) x y = Adopts b x y
  Makes relink x y = Relinks x y
  Makes reserve x y = Reserves x y
  Makes freeze x y = FreezesAlone x y
  Makes freeze_of_pass x y = FreezesOfPass x y
  Makes complete x y = Completes x y
  Makes begin_pass x y = BeginsPass x y
  Makes begin_scan x y = BeginsScan x y
  Makes end_pass x y = EndsPass x y
  Makes (apply number segment) x y = Applies number segment x y
