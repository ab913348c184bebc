-- How many free chunks it takes to take blocks.
use Rattle.std.specs.Prelude.{◌≡◌, ◌≢◌, ◌⊎◌, ◌≤◌, ℕ, ◌+◌, ◌-◌, ◌/◌, List, [], ◌∷◌, ◌++◌, Option, Some, None}
use Rattle.h2_num.specs.declared.block.Block.{Block}
use Rattle.h2_geom.specs.Geometry.{chunk_bytes}
use Rattle.h2_codes.specs.declared.code.Code.TheVariants.{Free, Used}
use Rattle.h2_freemap.specs.declared.size.Size.{Size}
use Rattle.h2_freemap.specs.declared.size.Size.TheVariants.{Small, Middle, Whole}
use Rattle.h2_codes.specs.declared.cursor.Cursor.{Cursor}
use Rattle.h2_freemap.specs.Space.{Space, code_of, cursor_of}
use Rattle.h2_freemap.specs.Free.{free_of}
use Rattle.h2_freemap.specs.Taking.{bytes_of, Takes}

-- how many blocks of the size the cursor's chunk has room for
abbrev pub blocks_left : Size → Option Cursor → ℕ
blocks_left size None = 0
blocks_left size (Some cursor) = (chunk_bytes - cursor.used) / bytes_of size

-- how many chunks so many small blocks fill or begin to fill
abbrev pub small_chunks : ℕ → ℕ
small_chunks blocks = (blocks + 15) / 16

-- and so many middle ones
abbrev pub middle_chunks : ℕ → ℕ
middle_chunks blocks = (blocks + 3) / 4

-- The need of blocks: a chunk for each whole one, and for the others the chunks of those for which the cursors have no room.
abbrev pub need_of : ℕ → ℕ → ℕ → Space → ℕ
need_of small middle whole x = small_chunks (small - blocks_left Small x.small) + middle_chunks (middle - blocks_left Middle x.middle) + whole

-- the need of one block
abbrev pub need_of_one : Size → Space → ℕ
need_of_one Small x = need_of 1 0 0 x
need_of_one Middle x = need_of 0 1 0 x
need_of_one Whole x = need_of 0 0 1 x

-- how many of the sizes are small
abbrev pub small_of : List Size → ℕ
small_of [] = 0
small_of (Small ∷ sizes) = 1 + small_of sizes
small_of (Middle ∷ sizes) = small_of sizes
small_of (Whole ∷ sizes) = small_of sizes

-- how many are middle
abbrev pub middle_of : List Size → ℕ
middle_of [] = 0
middle_of (Small ∷ sizes) = middle_of sizes
middle_of (Middle ∷ sizes) = 1 + middle_of sizes
middle_of (Whole ∷ sizes) = middle_of sizes

-- how many are whole chunks
abbrev pub whole_of : List Size → ℕ
whole_of [] = 0
whole_of (Small ∷ sizes) = whole_of sizes
whole_of (Middle ∷ sizes) = whole_of sizes
whole_of (Whole ∷ sizes) = 1 + whole_of sizes

-- the need of blocks of these sizes
abbrev pub need_of_all : List Size → Space → ℕ
need_of_all sizes x = need_of (small_of sizes) (middle_of sizes) (whole_of sizes) x

-- blocks of these sizes are taken one after the other
abbrev pub TakesAll : List Size → Space → Space → Type 0
TakesAll [] x y = x ≡ y
TakesAll (size ∷ sizes) x y = (u : Space) × (b : Block) × Takes size x u b × TakesAll sizes u y

-- no cursor lies in a free chunk
abbrev pub HasCursorsInUse : Space → Type 0
HasCursorsInUse x = (size : Size) (cursor : Cursor) → cursor_of x size ≡ Some cursor → code_of x cursor.chunk ≢ Free

-- Blocks that are taken use as many free chunks as their need before, in every order.
abbrev pub NeedIsUsed : Type 0
NeedIsUsed = (sizes : List Size) (x y : Space) → HasCursorsInUse x → TakesAll sizes x y → free_of x ≡ free_of y + need_of_all sizes x

-- Each chunk's code is as before, or used.
abbrev pub TakesOnlyUse : Type 0
TakesOnlyUse = (sizes : List Size) (x y : Space) → TakesAll sizes x y → (c : ℕ) → (code_of y c ≡ code_of x c) ⊎ (code_of y c ≡ Used)

-- Where the need of all is at most what is free, so is the need of each at its turn.
abbrev pub NeedIsEnough : Type 0
NeedIsEnough = (before : List Size) (size : Size) (after : List Size) (x y : Space) → HasCursorsInUse x → TakesAll before x y → need_of_all (before ++ size ∷ after) x ≤ free_of x → need_of_one size y ≤ free_of y

-- More blocks don't need fewer chunks.
abbrev pub NeedGrows : Type 0
NeedGrows = (small middle whole more_small more_middle more_whole : ℕ) (x : Space) → small ≤ more_small → middle ≤ more_middle → whole ≤ more_whole → need_of small middle whole x ≤ need_of more_small more_middle more_whole x

-- Whatever the cursors, blocks need no more chunks than they fill alone.
abbrev pub NeedIsAtMost : Type 0
NeedIsAtMost = (small middle whole : ℕ) (x : Space) → need_of small middle whole x ≤ small_chunks small + middle_chunks middle + whole

-- After some blocks were taken, the need of all is what those used and what the others need now.
abbrev pub NeedSplits : Type 0
NeedSplits = (before after : List Size) (x y : Space) → TakesAll before x y → need_of_all (before ++ after) x ≡ need_of_all before x + need_of_all after y
