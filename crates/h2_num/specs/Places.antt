-- Bytes by their places. A slice, a block or a disk image is seen as the function from places to bytes.
use Rattle.std.specs.Prelude.{◌≡◌, ◌<◌, ◌≤◌, ℕ, zero, suc, ◌+◌, ◌*◌, List, slice_index, length}

-- what each place holds
abbrev pub Places : Type 0
Places = ℕ → ℕ

-- a list of bytes by places; past its end there is 0
abbrev pub places : List ℕ → Places
places xs = λ k. slice_index xs k

-- each place holds a byte
abbrev pub AreBytes : Places → Type 0
AreBytes b = (k : ℕ) → b k < 256

-- the little-endian number of n bytes from a place on
abbrev pub number_at : Places → ℕ → ℕ → ℕ
number_at b at zero = 0
number_at b at (suc n) = b at + 256 * number_at b (suc at) n

-- the bytes from a place on, as places of their own
abbrev pub from_place : Places → ℕ → Places
from_place b at = λ k. b (at + k)

-- the place is one of the n from `at` on
abbrev pub InRange : ℕ → ℕ → ℕ → Type 0
InRange at n k = (at ≤ k) × (k < at + n)

-- the two are the same, but for at most the n bytes at a place
pub record SameOutside (at n : ℕ) (old new : Places) : Type 0 where
  pub before : (k : ℕ) → k < at → new k ≡ old k
  pub after : (k : ℕ) → at + n ≤ k → new k ≡ old k

-- the two are the same at the first n places
abbrev pub SameBelow : ℕ → Places → Places → Type 0
SameBelow n a b = (k : ℕ) → k < n → b k ≡ a k

-- the two are the same at each place
abbrev pub Same : Places → Places → Type 0
Same a b = (k : ℕ) → b k ≡ a k

-- zeros stand in the range
abbrev pub ZeroIn : ℕ → ℕ → Places → Type 0
ZeroIn from to b = (k : ℕ) → from ≤ k → k < to → b k ≡ 0

-- these bytes stand at the place
abbrev pub Holds : ℕ → List ℕ → Places → Type 0
Holds at bytes image = (k : ℕ) → k < length bytes → image (at + k) ≡ slice_index bytes k

-- after a field of n bytes is put: it holds the number, and all else stays
pub record Puts (at n v : ℕ) (old new : Places) : Type 0 where
  pub field : number_at new at n ≡ v
  pub others : SameOutside at n old new

-- after bytes are put at a place: they stand there, and all else stays
pub record Lays (at : ℕ) (bytes : List ℕ) (old new : Places) : Type 0 where
  pub inside : Holds at bytes new
  pub others : SameOutside at (length bytes) old new
