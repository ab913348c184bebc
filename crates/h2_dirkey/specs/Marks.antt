-- Marks, a bit for each.
use Rattle.std.specs.Prelude.{◌≡◌, ◌≢◌, ℕ, ◌/◌, ◌%◌, List, slice_index}
use Rattle.std.specs.Int.{bit_at}

-- the mark is set
abbrev pub IsMarked : List ℕ → ℕ → Type 0
IsMarked words c = bit_at (slice_index words (c / 64)) (c % 64) ≡ 1

-- after one mark is set
pub record MarksOne (c : ℕ) (old new : List ℕ) : Type 0 where
  pub marked : IsMarked new c
  pub kept : (k : ℕ) → IsMarked old k → IsMarked new k
  pub others : (k : ℕ) → k ≢ c → IsMarked new k → IsMarked old k
