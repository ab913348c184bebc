-- Codes and the bytes that hold them determine each other.
use Rattle.std.specs.Prelude.{◌≡◌, ◌<◌, ℕ, List}
use Rattle.h2_codes.specs.declared.code.Code.{Code}
use Rattle.h2_codes.specs.Codes.{IsSegment}
use Rattle.h2_codes.specs.Layout.{HoldCodes}

-- bytes hold the codes of one segment at most
abbrev pub OneSegment : Type 0
OneSegment = (bytes : ℕ → ℕ) (xs ys : List Code) → IsSegment xs → IsSegment ys → HoldCodes bytes xs → HoldCodes bytes ys → ys ≡ xs

-- a segment has one spelling in 64 bytes
abbrev pub OneSpelling : Type 0
OneSpelling = (codes : List Code) (a b : ℕ → ℕ) → ((k : ℕ) → a k < 256) → ((k : ℕ) → b k < 256) → HoldCodes a codes → HoldCodes b codes → (k : ℕ) → k < 64 → b k ≡ a k
