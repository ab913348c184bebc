-- Bytes of a file by their places, kept in pages of 16384. This is how contents are kept, and no part of
-- what a command means.
use Rattle.std.specs.Prelude.{◌≡◌, ℕ, zero, suc, ◌+◌, ◌*◌, ◌/◌, ◌%◌, ◌^◌, ◌<◌, ◌≤◌, List, [], ◌∷◌, ◌++◌, length, slice_index, cond, nat_lt, nat_le, Option, Some, None, IsSome}
use Rattle.std.specs.Ordering.{nat_cmp}
use Rattle.std.specs.FinMap.{FinMap, get}
use Rattle.h2_contents.specs.Windows.{laid}

-- the bytes of each page that is kept, by its number
abbrev pub PageMap : Type 0
PageMap = FinMap nat_cmp (List ℕ)

-- a byte of a page; a page that isn't kept is zeros
abbrev pub page_byte : Option (List ℕ) → ℕ → ℕ
page_byte (Some bytes) k = slice_index bytes k
page_byte None k = 0

-- the byte at a place of the file
abbrev pub byte_in : PageMap → ℕ → ℕ
byte_in m i = page_byte (get m (i / 16384)) (i % 16384)

-- the first n bytes
unfoldable pub first_bytes : (ℕ → ℕ) → ℕ → List ℕ
first_bytes f zero = []
first_bytes f (suc n) = first_bytes f n ++ f n ∷ []

-- a size, and zeros from there on
pub record IsKept (m : PageMap) (size : ℕ) : Type 0 where
  pub small : size ≤ 2 ^ 40
  pub zeros : (i : ℕ) → size ≤ i → byte_in m i ≡ 0

-- no byte changed
abbrev pub SameBytes : PageMap → PageMap → Type 0
SameBytes old new = (i : ℕ) → byte_in new i ≡ byte_in old i

-- no page went
abbrev pub KeepsPages : PageMap → PageMap → Type 0
KeepsPages old new = (n : ℕ) → IsSome (get old n) → IsSome (get new n)

-- from a page on, the bytes of a write stand at their places
abbrev pub IsWrittenFrom : ℕ → ℕ → List ℕ → PageMap → PageMap → Type 0
IsWrittenFrom n off bytes old new = (i : ℕ) → byte_in new i ≡ cond (nat_le (n * 16384) i) (laid off bytes i (byte_in old i)) (byte_in old i)

-- a page that begins at its place, after the bytes of a write are put at theirs
abbrev pub IsPageAfter : ℕ → ℕ → List ℕ → Option (List ℕ) → List ℕ → Type 0
IsPageAfter n off bytes old new = (k : ℕ) → k < 16384 → slice_index new k ≡ laid off bytes (n * 16384 + k) (page_byte old k)

-- the page that is kept, with zeros from a place on, if one is kept
abbrev pub IsPageCut : ℕ → Option (List ℕ) → Option (List ℕ) → Type 0
IsPageCut size None None = Unit {0}
IsPageCut size None (Some new) = ⊥
IsPageCut size (Some old) None = ⊥
IsPageCut size (Some old) (Some new) = (k : ℕ) → k < 16384 → slice_index new k ≡ cond (nat_lt k size) (slice_index old k) 0

-- the pages below a number stay, and the others go
abbrev pub KeepsBelow : ℕ → PageMap → PageMap → Type 0
KeepsBelow n old new = (q : ℕ) → get new q ≡ cond (nat_lt q n) (get old q) None

-- the bytes below a size stay, and the others are zeros
abbrev pub IsCutAt : ℕ → PageMap → PageMap → Type 0
IsCutAt size old new = (i : ℕ) → byte_in new i ≡ cond (nat_lt i size) (byte_in old i) 0

-- a window that begins at a place has the bytes of the pages below a number, and zeros behind
abbrev pub IsShownTo : PageMap → ℕ → ℕ → List ℕ → Type 0
IsShownTo m n start window = (k : ℕ) → k < length window → slice_index window k ≡ cond (nat_lt (start + k) (n * 16384)) (byte_in m (start + k)) 0
