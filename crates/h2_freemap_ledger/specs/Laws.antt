-- What the freemap does are moves of the ledger.
use Rattle.std.specs.Prelude.{ℕ, true, ◌≡◌, ◌≢◌, ◌+◌, ◌≤◌, Some, List, ◌∷◌, ◌++◌}
use Rattle.h2_num.specs.declared.block.Block.{Block}
use Rattle.std.specs.Prelude.{Bool}
use Rattle.h2_freemap.specs.declared.size.Size.{Size}
use Rattle.h2_freemap.specs.Space.{Space, code_of}
use Rattle.h2_freemap.specs.Free.{free_of}
use Rattle.h2_freemap.specs.Taking.{Takes}
use Rattle.h2_freemap.specs.Need.{need_of_one, need_of_all, TakesAll}
use Rattle.h2_freemap.specs.Pins.{is_in_use}
use Rattle.h2_freemap.specs.Pins as pinning
use Rattle.h2_freemap.specs.Sweeping.{Sweeps}
use Rattle.h2_ledger.specs.declared.shared_size.SharedSize.{SharedSize}
use Rattle.h2_codes.specs.declared.cursor.Cursor.{Cursor}
use Rattle.h2_ledger.specs.Ledger.{Ledger, LiesInOneChunk, block_chunk}
use Rattle.h2_ledger.specs.Moves.{Move, adopt, apply, Makes, Within, WithinAnd, IsGranted}
use Rattle.h2_ledger.specs.Sound.{IsSound}
use Rattle.h2_freemap_ledger.specs.Space.{HasSpace, IsTakeOf, PaysFor, JoinsBeside, SeesMarked, AppliesBeside}

-- taking a block is a move that takes it, where the block joins the pins or the live tree and its need is paid for
abbrev pub TakeMoves : {Set : Type 0} → (Block → Set → Type 0) → Type 0
TakeMoves {Set} has = (size : Size) (s t : Space) (b : Block) (x y : Ledger Set) → Takes size s t b → HasSpace has s x → HasSpace has t y
    → JoinsBeside has b x y → WithinAnd has y.fresh x.fresh b → PaysFor has (need_of_one size s) x y
    → (move : Move) × IsTakeOf size b move × Makes has move x y

-- The block is the one that the ledger grants before anything has changed. So it shares no byte with a block in use or marked, by the law of takes.
abbrev pub TakeIsGranted : {Set : Type 0} → (Block → Set → Type 0) → Type 0
TakeIsGranted {Set} has = (size : Size) (s t : Space) (b : Block) (x : Ledger Set) → Takes size s t b → HasSpace has s x → IsGranted has b x

-- adopting a block is the move that adopts it, where the block joins the pins or the live tree, lies in one chunk, and no cursor is in the chunk
abbrev pub AdoptMoves : {Set : Type 0} → (Block → Set → Type 0) → Type 0
AdoptMoves {Set} has = (s t : Space) (b : Block) (x y : Ledger Set) → pinning.Adopts b s t → is_in_use (code_of s (block_chunk b)) ≡ true
    → HasSpace has s x → HasSpace has t y → JoinsBeside has b x y → Within has y.fresh x.fresh → y.reserved ≡ x.reserved
    → LiesInOneChunk b → ((k : SharedSize) (at : Cursor) → x.cursor k ≡ Some at → at.chunk ≢ block_chunk b) → Makes has (adopt b) x y

-- applying a segment is the move that applies it, where the flags are of the chunks in which the pass marked something
abbrev pub ApplyMoves : {Set : Type 0} → (Block → Set → Type 0) → Type 0
ApplyMoves {Set} has = (number segment : ℕ) (seen : List Bool) (s t : Space) (x y : Ledger Set) → Sweeps segment seen s t → HasSpace has s x → HasSpace has t y
    → SeesMarked has seen segment x → AppliesBeside has number segment x y → Makes has (apply number segment) x y

-- in a sound ledger a need that is paid for is free, so that the block may be taken
abbrev pub PaidIsFree : {Set : Type 0} → (Block → Set → Type 0) → Type 0
PaidIsFree {Set} has = (s : Space) (n : ℕ) (x y : Ledger Set) → IsSound has x → HasSpace has s x → PaysFor has n x y → n ≤ free_of s

-- What a command has reserved for blocks that are taken one after another, with nothing in between, pays for each of
-- them at its turn: the need of those before it and its own are within the need of all.
abbrev pub ReservationPays : Type 0
ReservationPays = (before : List Size) (size : Size) (after : List Size) (s u : Space) → TakesAll before s u
    → need_of_all before s + need_of_one size u ≤ need_of_all (before ++ size ∷ after) s
