-- Bytes by their places, kept in pages of 16 KiB that lie one after another in one vector.
use Rattle.std.specs.Prelude.{◌≡◌, ◌≢◌, ◌<◌, ◌≤◌, ℕ, ◌+◌, ◌/◌, ◌%◌, List, slice_index, Option, None, Some, IsSome}
use Rattle.h2_num.specs.Places.{Places, InRange, SameOutside}

-- a byte of the page that begins at a place of the vector; a page that isn't kept is zeros
abbrev pub byte_in : List ℕ → Option ℕ → ℕ → ℕ
byte_in bytes None offset = 0
byte_in bytes (Some start) offset = slice_index bytes (start + offset)

-- what each place holds, by where the page of each number begins
abbrev pub page_byte : (ℕ → Option ℕ) → List ℕ → Places
page_byte starts bytes = λ k. byte_in bytes (starts (k / 16384)) (k % 16384)

-- each page lies within the vector, and no two of them share a byte
pub record IsTable (starts : ℕ → Option ℕ) (room : ℕ) : Type 0 where
  pub within : (page start : ℕ) → starts page ≡ Some start → start + 16384 ≤ room
  pub apart : (page other start begin : ℕ) → starts page ≡ Some start → starts other ≡ Some begin → page ≢ other → start ≤ begin → start + 16384 ≤ begin

-- the page of each of the n bytes at a place is kept
abbrev pub HasPages : (ℕ → Option ℕ) → ℕ → ℕ → Type 0
HasPages starts at n = (k : ℕ) → InRange at n k → IsSome (starts (k / 16384))

-- the pages of these numbers, but for the last, are kept
abbrev pub HasPagesBetween : (ℕ → Option ℕ) → ℕ → ℕ → Type 0
HasPagesBetween starts first end = (page : ℕ) → first ≤ page → page < end → IsSome (starts page)

-- n bytes of a buffer, from one on, are those of the image at a place, and all else stays
pub record Fills (at from n : ℕ) (image old new : Places) : Type 0 where
  pub inside : (k : ℕ) → k < n → new (from + k) ≡ image (at + k)
  pub others : SameOutside from n old new
