-- Moves one after another, and what may become of a chunk meanwhile.
use Rattle.std.specs.Prelude.{ℕ, ◌≡◌, ◌≢◌, ◌⊎◌, None, List, [], ◌∷◌}
use Rattle.h2_num.specs.declared.block.Block.{Block}
use Rattle.h2_geom.specs.Geometry.{segment_of}
use Rattle.h2_ledger.specs.declared.shared_size.SharedSize.{SharedSize}
use Rattle.h2_ledger.specs.declared.pass.Pass.TheVariants.{Idle}
use Rattle.h2_ledger.specs.Ledger.{block_chunk, LiesInOneChunk, IsTaken, Ledger, HasBlockIn}
use Rattle.h2_ledger.specs.Moves.{Move, take_next, take_first, take_whole, adopt, relink, reserve, freeze, freeze_of_pass, complete, begin_pass, begin_scan, end_pass, apply, Makes, Same, Within, CodesStay, CursorsStay, RootsStay, PassStays}

-- the block that the move takes, before those of later moves
abbrev pub taken_then : Move → List Block → List Block
taken_then (take_next size b) more = b ∷ more
taken_then (take_first size b) more = b ∷ more
taken_then (take_whole b) more = b ∷ more
taken_then (adopt b) more = more
taken_then relink more = more
taken_then reserve more = more
taken_then freeze more = more
taken_then freeze_of_pass more = more
taken_then complete more = more
taken_then begin_pass more = more
taken_then begin_scan more = more
taken_then end_pass more = more
taken_then (apply number segment) more = more

-- the blocks that moves take, in order; an adopted block is shared and not taken
abbrev pub taken_by : List Move → List Block
taken_by [] = []
taken_by (move ∷ moves) = taken_then move (taken_by moves)

-- the move takes or adopts a block in the chunk
abbrev pub JoinsIn : ℕ → Move → Type 0
JoinsIn c (take_next size b) = block_chunk b ≡ c
JoinsIn c (take_first size b) = block_chunk b ≡ c
JoinsIn c (take_whole b) = block_chunk b ≡ c
JoinsIn c (adopt b) = block_chunk b ≡ c
JoinsIn c relink = ⊥
JoinsIn c reserve = ⊥
JoinsIn c freeze = ⊥
JoinsIn c freeze_of_pass = ⊥
JoinsIn c complete = ⊥
JoinsIn c begin_pass = ⊥
JoinsIn c begin_scan = ⊥
JoinsIn c end_pass = ⊥
JoinsIn c (apply number segment) = ⊥

-- no block is taken or adopted in the chunk
abbrev pub NoJoinIn : ℕ → Move → Type 0
NoJoinIn c move = JoinsIn c move → ⊥

-- no pass applies a segment by the move
abbrev pub NoApply : Move → Type 0
NoApply move = (number segment : ℕ) → move ≢ apply number segment

-- no block joins in the chunk, and no pass but these two applies a segment
abbrev pub Spares : ℕ → ℕ → ℕ → Move → Type 0
Spares c p q move = NoJoinIn c move × ((number segment : ℕ) → move ≡ apply number segment → (number ≡ p) ⊎ (number ≡ q))

module _ {Set : Type 0} (◌∈◌ : Block → Set → Type 0) where
  infix 40 ◌∈◌
  -- nothing changes but the way in which the sets are given
  pub record Stays (x y : Ledger Set) : Type 0 where
    pub live : Same ◌∈◌ y.live x.live
    pub pins : Same ◌∈◌ y.pins x.pins
    pub fresh : Within ◌∈◌ y.fresh x.fresh
    pub codes : CodesStay ◌∈◌ x y
    pub cursors : CursorsStay ◌∈◌ x y
    pub reserved : y.reserved ≡ x.reserved
    pub roots : RootsStay ◌∈◌ x y
    pub pass : PassStays ◌∈◌ x y

  -- the moves lead from one ledger to the other
  abbrev pub Run : List Move → Ledger Set → Ledger Set → Type 0
  Run [] x y = Stays x y
  Run (move ∷ moves) x y = (u : Ledger Set) × (v : Ledger Set) × Stays x u × Makes ◌∈◌ move u v × Run moves v y

  -- a move that may give the chunk another use: one that takes or adopts a block in it, or by which a pass that marked it applies its segment
  pub data Touches (c : ℕ) (move : Move) (x : Ledger Set) : Type 0 where
    by_join : JoinsIn c move → Touches c move x
    by_apply : (number segment : ℕ) → move ≡ apply number segment → segment_of c ≡ segment → HasBlockIn ◌∈◌ x.marked c → Touches c move x

  -- the moves lead from one ledger to the other, and none of them touches the chunk
  abbrev pub RunsBeside : ℕ → List Move → Ledger Set → Ledger Set → Type 0
  RunsBeside c [] x y = Stays x y
  RunsBeside c (move ∷ moves) x y = (u : Ledger Set) × (v : Ledger Set) × Stays x u × Makes ◌∈◌ move u v × (Touches c move u → ⊥) × RunsBeside c moves v y

  -- pass `number` applies the chunk's segment, and has marked nothing in the chunk
  pub record AppliesUnmarked (c number : ℕ) (x y : Ledger Set) : Type 0 where
    pub makes : Makes ◌∈◌ (apply number (segment_of c)) x y
    pub unmarked : HasBlockIn ◌∈◌ x.marked c → ⊥

  -- the ledger of a volume that was just opened: no more than its header's tree is in use
  pub record IsOpened (x : Ledger Set) : Type 0 where
    pub live : Within ◌∈◌ x.live x.completed
    pub in_one_chunk : (b : Block) → b ∈ x.completed → LiesInOneChunk b
    pub covered : (b : Block) → b ∈ x.completed → IsTaken (x.code (block_chunk b))
    pub pins : (b : Block) → b ∈ x.pins → ⊥
    pub fresh : (b : Block) → b ∈ x.fresh → ⊥
    pub queued : (b : Block) → b ∈ x.queued → ⊥
    pub no_flush : x.frozen_number ≡ None
    pub no_pass : x.pass ≡ Idle
    pub no_cursor : (k : SharedSize) → x.cursor k ≡ None
    pub unreserved : x.reserved ≡ 0
