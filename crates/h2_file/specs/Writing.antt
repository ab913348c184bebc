-- The blocks that a write makes, and what they have to do with the bytes of the file.
use Rattle.std.specs.Prelude.{◌≡◌, ◌⊎◌, ◌<◌, ◌≤◌, ◌+◌, ◌*◌, ◌/◌, ℕ, true, List, Option, Some, None, length, slice_get, slice_index}
use Rattle.h2_num.specs.Places.{Places, places}
use Rattle.h2_ref.specs.declared.reference.Ref.{Ref}
use Rattle.h2_contents.specs.Windows.{LaysInto}
use Rattle.h2_file.specs.declared.blocks.Touched.{Touched}

-- the block with this number is put: it is one of those that the range touches, or block 0 for the bytes of the inode
abbrev pub IsPut : Touched → ℕ → Type 0
IsPut t b = ((t.first ≤ b) × (b < t.first + t.count)) ⊎ ((t.lift ≡ true) × (b ≡ 0))

-- the references are those of the blocks that are put, and each of these has one
pub record AreOfTouched (t : Touched) (rs : List Ref) : Type 0 where
  pub each : (i : ℕ) (r : Ref) → slice_get rs i ≡ Some r → (b : ℕ) × (r.key ≡ 16384 * b) × IsPut t b
  pub all : (b : ℕ) → IsPut t b → (i : ℕ) × (r : Ref) × (slice_get rs i ≡ Some r) × (r.key ≡ 16384 * b)

-- The block of a reference is made of the one that was there: it had the bytes of the file from the reference's key on,
-- and those of them that are written, at `off`, were laid into it.
pub record IsMerged (blocks : Ref → Option Places) (bytes : List ℕ) (off : ℕ) (written : List ℕ) (r : Ref) : Type 0 where
  pub before : List ℕ
  pub after : List ℕ
  pub was : (k : ℕ) → k < 16384 → slice_index before k ≡ slice_index bytes (r.key + k)
  pub laid : LaysInto off written r.key before after
  pub long : length after ≡ 16384
  pub known : blocks r ≡ Some (places after)

-- what was found for a place of the file has the bytes of the block with that place: in the block, or zeros in a hole
abbrev pub ReadsBlock : (Ref → Option Places) → List ℕ → ℕ → Option Ref → Type 0
ReadsBlock blocks bytes start None = (k : ℕ) → k < 16384 → 0 ≡ slice_index bytes (16384 * (start / 16384) + k)
ReadsBlock blocks bytes start (Some r) = (r.key ≡ 16384 * (start / 16384)) × ((block : Places) × (blocks r ≡ Some block) × ((k : ℕ) → k < 16384 → block k ≡ slice_index bytes (r.key + k)))
