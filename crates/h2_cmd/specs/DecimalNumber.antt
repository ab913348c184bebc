-- How a number is spelled in a command line.
use Rattle.std.specs.Prelude.{◌≡◌, ◌⊎◌, ◌≤◌, ℕ, List, slice_index, length}

-- the text begins with a plus sign, or with a zero before a further byte
abbrev pub HasSignOrLeadingZero : List ℕ → Type 0
HasSignOrLeadingZero text = (slice_index text 0 ≡ 43) ⊎ ((slice_index text 0 ≡ 48) × (2 ≤ length text))
