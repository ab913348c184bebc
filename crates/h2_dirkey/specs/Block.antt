-- The block of a long name.
use Rattle.std.specs.Prelude.{◌≡◌, ◌<◌, ◌≤◌, ℕ, List, length, slice_index}
use Rattle.h2_num.specs.Places.{Places}

-- the 1024 bytes of the block of a name of 65 to 255 bytes: the name, and then zeros
pub record NameBytes (name : List ℕ) (b : Places) : Type 0 where
  pub long : 65 ≤ length name
  pub few : length name ≤ 255
  pub bytes : (k : ℕ) → k < 1024 → b k ≡ slice_index name k
