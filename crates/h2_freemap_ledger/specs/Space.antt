-- A ledger that has the codes and cursors of a freemap, and what else is done to it beside the freemap's part of a move.
use Rattle.std.specs.Prelude.{ℕ, suc, Bool, IsTrue, ◌≡◌, ◌⊎◌, ◌↔◌, ◌+◌, ◌*◌, ◌<◌, ◌≤◌, List}
use Rattle.h2_num.specs.declared.block.Block.{Block}
use Rattle.h2_geom.specs.Geometry.{segment_of, in_segment, segment_chunks}
use Rattle.h2_codes.specs.Seen.{has_chunk}
use Rattle.h2_freemap.specs.declared.size.Size.{Size}
use Rattle.h2_freemap.specs.declared.size.Size.TheVariants as sizes
use Rattle.h2_freemap.specs.Space.{Space, chunk_count, code_of, cursor_of}
use Rattle.h2_ledger.specs.declared.shared_size.SharedSize.{SharedSize}
use Rattle.h2_ledger.specs.declared.shared_size.SharedSize.TheVariants.{Small, Middle}
use Rattle.h2_ledger.specs.declared.pass.Pass.TheVariants.{Idle, Scanning}
use Rattle.h2_codes.specs.Free.{free_below}
use Rattle.h2_ledger.specs.Ledger.{Ledger, HasBlockIn}
use Rattle.h2_ledger.specs.Moves.{Move, take_next, take_first, take_whole, Same, WithinAnd, RootsStay, PassStays, UsesLessen}

-- a shared size as a size of the freemap
abbrev pub size_of : SharedSize → Size
size_of Small = sizes.Small
size_of Middle = sizes.Middle

-- the move takes this block of this size
abbrev pub IsTakeOf : Size → Block → Move → Type 0
IsTakeOf sizes.Small b move = (move ≡ take_next Small b) ⊎ (move ≡ take_first Small b)
IsTakeOf sizes.Middle b move = (move ≡ take_next Middle b) ⊎ (move ≡ take_first Middle b)
IsTakeOf sizes.Whole b move = move ≡ take_whole b

module _ {Set : Type 0} (◌∈◌ : Block → Set → Type 0) where
  infix 40 ◌∈◌
  -- the ledger has the codes and cursors of the freemap
  pub record HasSpace (s : Space) (l : Ledger Set) : Type 0 where
    pub chunks : l.chunks ≡ chunk_count s
    pub codes : (c : ℕ) → l.code c ≡ code_of s c
    pub cursors : (k : SharedSize) → l.cursor k ≡ cursor_of s (size_of k)

  -- so many free chunks are paid for: they were reserved, or they are free beyond all that is reserved
  abbrev pub PaysFor : ℕ → Ledger Set → Ledger Set → Type 0
  PaysFor n x y = (y.reserved + n ≡ x.reserved) ⊎ ((y.reserved ≡ x.reserved) × (x.reserved + n ≤ free_below x.code x.chunks))

  -- a block is live or pinned that may not have been, and nothing else but the space changes
  pub record JoinsBeside (b : Block) (x y : Ledger Set) : Type 0 where
    pub live : WithinAnd ◌∈◌ y.live x.live b
    pub pins : WithinAnd ◌∈◌ y.pins x.pins b
    pub held : (b ∈ y.live) ⊎ (b ∈ y.pins)
    pub roots : RootsStay ◌∈◌ x y
    pub pass : PassStays ◌∈◌ x y

  -- the flags of a segment say in which of its chunks the pass marked something
  abbrev pub SeesMarked : List Bool → ℕ → Ledger Set → Type 0
  SeesMarked seen segment x = (c : ℕ) → segment_of c ≡ segment → IsTrue (has_chunk seen (in_segment c)) ↔ HasBlockIn ◌∈◌ x.marked c

  -- a scanning pass goes on to the next segment, or ends with the last one, and nothing else but the space changes
  pub record AppliesBeside (number segment : ℕ) (x y : Ledger Set) : Type 0 where
    pub was : x.pass ≡ Scanning number segment
    pub in_volume : segment_chunks * suc segment ≤ x.chunks
    pub reserved : y.reserved ≡ x.reserved
    pub uses : UsesLessen ◌∈◌ x y
    pub roots : RootsStay ◌∈◌ x y
    pub marked : Same ◌∈◌ y.marked x.marked
    pub goes_on : segment_chunks * suc segment < x.chunks → y.pass ≡ Scanning number (suc segment)
    pub ends : segment_chunks * suc segment ≡ x.chunks → y.pass ≡ Idle
