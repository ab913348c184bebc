-- The laws of the ledger.
use Rattle.std.specs.Prelude.{ℕ, ◌≡◌, ◌≢◌, ◌⊎◌, ◌<◌, List, [], ◌∷◌, ◌++◌}
use Rattle.std.specs.List.{Contains, AllByRecursion}
use Rattle.h2_num.specs.declared.block.Block.{Block}
use Rattle.h2_codes.specs.declared.code.Code.TheVariants.{Free, Reserved, Staged, Used}
use Rattle.h2_ledger.specs.declared.pass.Pass.TheVariants.{Scanning}
use Rattle.h2_ledger.specs.Ledger.{AreDisjoint, Ledger, IsInUse, HasMarked, IsMarked}
use Rattle.h2_ledger.specs.Moves.{Move, apply, Makes, IsGranted}
use Rattle.h2_ledger.specs.Sound.{IsSound, UnwrittenIsApart}
use Rattle.h2_ledger.specs.Runs.{NoApply, taken_by, Spares, Run, Touches, RunsBeside, AppliesUnmarked, IsOpened}
use Rattle.h2_ledger.specs.Passes.{IsComplete, AreSuccessive, IsTwiceUnmarked}

-- an opened ledger is sound
abbrev pub OpensSound : {Set : Type 0} → (Block → Set → Type 0) → Type 0
OpensSound {Set} has = (x : Ledger Set) → IsOpened has x → IsSound has x

-- each move keeps the ledger sound
abbrev pub KeepsSound : {Set : Type 0} → (Block → Set → Type 0) → Type 0
KeepsSound {Set} has = (move : Move) (x y : Ledger Set) → Makes has move x y → IsSound has x → IsSound has y

-- and so does each list of moves
abbrev pub RunsSound : {Set : Type 0} → (Block → Set → Type 0) → Type 0
RunsSound {Set} has = (moves : List Move) (x y : Ledger Set) → Run has moves x y → IsSound has x → IsSound has y

-- the same chunks are reserved after moves as before
abbrev pub ReservedStays : {Set : Type 0} → (Block → Set → Type 0) → Type 0
ReservedStays {Set} has = (moves : List Move) (x y : Ledger Set) → Run has moves x y → IsSound has x
    → (c : ℕ) → (x.code c ≡ Reserved → y.code c ≡ Reserved) × (y.code c ≡ Reserved → x.code c ≡ Reserved)

-- a block that is about to be taken shares no byte with a block in use or marked
abbrev pub TakesApart : {Set : Type 0} → (Block → Set → Type 0) → Type 0
TakesApart {Set} has = (taken : Block) (x : Ledger Set) → IsGranted has taken x → IsSound has x
    → (b : Block) → IsInUse has x b ⊎ IsMarked has x b → AreDisjoint taken b

-- what was in use or marked before some moves isn't granted again after them, also where they let go of it, unless a pass applies a segment
abbrev pub GrantsApart : {Set : Type 0} → (Block → Set → Type 0) → Type 0
GrantsApart {Set} has = (moves : List Move) (x y : Ledger Set) → Run has moves x y → AllByRecursion NoApply moves → IsSound has x
    → (b : Block) → IsInUse has x b ⊎ IsMarked has x b → (taken : Block) → IsGranted has taken y → AreDisjoint taken b

-- no two of the blocks share a byte
abbrev pub ArePairwiseDisjoint : List Block → Type 0
ArePairwiseDisjoint [] = Unit {0}
ArePairwiseDisjoint (b ∷ bs) = AllByRecursion (λ d. AreDisjoint d b) bs × ArePairwiseDisjoint bs

-- the blocks that the moves of one event take share no byte with what was in use or marked before the event
abbrev pub EventTakesApart : {Set : Type 0} → (Block → Set → Type 0) → Type 0
EventTakesApart {Set} has = (moves : List Move) (x y : Ledger Set) → Run has moves x y → AllByRecursion NoApply moves → IsSound has x
    → (b : Block) → IsInUse has x b ⊎ IsMarked has x b → AllByRecursion (λ taken. AreDisjoint taken b) (taken_by moves)

-- nor with each other
abbrev pub EventTakesDistinct : {Set : Type 0} → (Block → Set → Type 0) → Type 0
EventTakesDistinct {Set} has = (moves : List Move) (x y : Ledger Set) → Run has moves x y → AllByRecursion NoApply moves → IsSound has x
    → ArePairwiseDisjoint (taken_by moves)

-- while a pass runs, what is taken after its freeze shares no byte with what it marked there, also where it applies segments meanwhile: from an opened
-- ledger on, the pass has marked after the first moves, and after the further ones it still runs
abbrev pub TakesSinceApart : {Set : Type 0} → (Block → Set → Type 0) → Type 0
TakesSinceApart {Set} has = (before moves : List Move) (opened x y : Ledger Set) → IsOpened has opened → Run has before opened x → Run has moves x y
    → (number s t : ℕ) → HasMarked x.pass number s → HasMarked y.pass number t
    → (b : Block) → has b x.marked → AllByRecursion (λ taken. AreDisjoint taken b) (taken_by moves)

-- in an opened ledger nothing is yet to be written
abbrev pub OpensApart : {Set : Type 0} → (Block → Set → Type 0) → Type 0
OpensApart {Set} has = (x : Ledger Set) → IsOpened has x → UnwrittenIsApart has x

-- each move keeps what is yet to be written apart
abbrev pub KeepsApart : {Set : Type 0} → (Block → Set → Type 0) → Type 0
KeepsApart {Set} has = (move : Move) (x y : Ledger Set) → Makes has move x y → IsSound has x → UnwrittenIsApart has x → UnwrittenIsApart has y

-- and so does each list of moves
abbrev pub RunsApart : {Set : Type 0} → (Block → Set → Type 0) → Type 0
RunsApart {Set} has = (moves : List Move) (x y : Ledger Set) → Run has moves x y → IsSound has x → UnwrittenIsApart has x → UnwrittenIsApart has y

-- a pass that marked nothing in a chunk leaves it free where it was free, frees it where it was staged, and stages it where it was used
abbrev pub UnmarkedLapses : {Set : Type 0} → (Block → Set → Type 0) → Type 0
UnmarkedLapses {Set} has = (c number : ℕ) (x y : Ledger Set) → AppliesUnmarked has c number x y
    → (x.code c ≡ Free → y.code c ≡ Free) × (x.code c ≡ Staged → y.code c ≡ Free) × (x.code c ≡ Used → y.code c ≡ Staged)

-- a move that doesn't touch a chunk leaves it free, or leaves it staged or frees it
abbrev pub LeavesFree : {Set : Type 0} → (Block → Set → Type 0) → Type 0
LeavesFree {Set} has = (c : ℕ) (move : Move) (x y : Ledger Set) → Makes has move x y → (Touches has c move x → ⊥)
    → (x.code c ≡ Free → y.code c ≡ Free) × (x.code c ≡ Staged → (y.code c ≡ Staged) ⊎ (y.code c ≡ Free))

-- and so does each list of moves none of which touches it
abbrev pub RunsLeaveFree : {Set : Type 0} → (Block → Set → Type 0) → Type 0
RunsLeaveFree {Set} has = (c : ℕ) (moves : List Move) (x y : Ledger Set) → RunsBeside has c moves x y
    → (x.code c ≡ Free → y.code c ≡ Free) × (x.code c ≡ Staged → (y.code c ≡ Staged) ⊎ (y.code c ≡ Free))

-- a chunk that two passes find unmarked, and in which no block joins and no third pass applies between their applies of it, is free after the second
abbrev pub FreesTwiceUnmarked : {Set : Type 0} → (Block → Set → Type 0) → Type 0
FreesTwiceUnmarked {Set} has = (c p q : ℕ) (moves : List Move) (w x y z : Ledger Set) → IsSound has w → w.code c ≢ Reserved
    → AppliesUnmarked has c p w x → Run has moves x y → AllByRecursion (Spares c p q) moves → AppliesUnmarked has c q y z → z.code c ≡ Free

-- no pass ends half-applied: from an opened ledger on, a pass that has applied a segment has applied them all, or still runs, and then it has applied just the first ones
abbrev pub AppliesAllOrRuns : {Set : Type 0} → (Block → Set → Type 0) → Type 0
AppliesAllOrRuns {Set} has = (moves : List Move) (x y : Ledger Set) → IsOpened has x → Run has moves x y
    → (number segment : ℕ) → Contains moves (apply number segment)
    → IsComplete x.chunks number moves ⊎ ((applied : ℕ) × (y.pass ≡ Scanning number applied) × (segment < applied) × ((s : ℕ) → s < applied → Contains moves (apply number s)))

-- a pass applies each segment at most once: no list of moves from a sound ledger on has two such applies
abbrev pub AppliesOnce : {Set : Type 0} → (Block → Set → Type 0) → Type 0
AppliesOnce {Set} has = (number segment : ℕ) (before between after : List Move) (x y : Ledger Set) → IsSound has x
    → Run has (before ++ (apply number segment ∷ (between ++ (apply number segment ∷ after)))) x y → ⊥

-- a chunk that two successive complete passes find unmarked, and in which nothing is taken or adopted between their applies of its segment, is free after the second
abbrev pub FreesAfterTwoPasses : {Set : Type 0} → (Block → Set → Type 0) → Type 0
FreesAfterTwoPasses {Set} has = (c p q : ℕ) (moves : List Move) (opened last : Ledger Set)
    → IsTwiceUnmarked has c p q moves opened last → AreSuccessive opened.chunks p q moves → last.code c ≡ Free
