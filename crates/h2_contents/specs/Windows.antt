-- A part of a file, byte by byte, after bytes are put into it.
use Rattle.std.specs.Prelude.{◌≡◌, ℕ, ◌+◌, ◌-◌, ◌<◌, List, length, slice_index, cond, nat_lt, nat_le, ◌&&◌}

-- the byte at a place of the file after new bytes are put at off
abbrev pub laid : ℕ → List ℕ → ℕ → ℕ → ℕ
laid off new at old = cond (nat_le off at && nat_lt at (off + length new)) (slice_index new (at - off)) old

-- a window that begins at a place, after bytes of the file that stand at off are laid into it
abbrev pub LaysInto : ℕ → List ℕ → ℕ → List ℕ → List ℕ → Type 0
LaysInto off new start before after = (k : ℕ) → k < length after → slice_index after k ≡ laid off new (start + k) (slice_index before k)
