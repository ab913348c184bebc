-- What a set of references is seen as, and where a set with one too many is split.
use Rattle.std.specs.Prelude.{◌≡◌, ℕ, ◌+◌, ◌/◌, ◌%◌, ◌<◌, ◌≤◌, ◌⊎◌, ◌^◌, true, List, Option, Some, None, length, slice_get, count_by, if◌then◌else◌}
use Rattle.h2_ref.specs.declared.reference.Ref.{Ref}
use Rattle.h2_set.specs.Ranges.{Rising, lies, put, limit, IsApart, AllAligned, IsOneClass}

-- the references in order, and how many there is room for
pub record RefSet : Type 0 where
  pub refs : List Ref
  pub capacity : ℕ

-- what every set is: disjoint ranges in order, within its capacity of 4 or 32
pub record IsRefSet (s : RefSet) : Type 0 where
  pub rising : Rising 0 (2 ^ 64) s.refs
  pub fits : length s.refs ≤ s.capacity
  pub known : (s.capacity ≡ 4) ⊎ (s.capacity ≡ 32)

-- an aligned range that holds at least half of the references, rounded up
pub record HoldsHalf (rs : List Ref) (key bits : ℕ) : Type 0 where
  pub aligned : key % 2 ^ bits ≡ 0
  pub half : (length rs + 1) / 2 ≤ count_by (lies key bits) rs

-- the split rule: the least such range, and the lowest of those
pub record IsSplitOf (rs : List Ref) (key bits : ℕ) : Type 0 where
  pub half : HoldsHalf rs key bits
  pub least : (k b : ℕ) → HoldsHalf rs k b → (bits < b) ⊎ ((b ≡ bits) × (key ≤ k))

-- an aligned range that holds all of the references
pub record HoldsAll (rs : List Ref) (key bits : ℕ) : Type 0 where
  pub aligned : key % 2 ^ bits ≡ 0
  pub all : (i : ℕ) (r : Ref) → slice_get rs i ≡ Some r → lies key bits r ≡ true

-- the reference to be added that is left over, where it isn't among those of the range
abbrev pub rest_of : ℕ → ℕ → Ref → Option Ref
rest_of key bits r = if lies key bits r then None else Some r

-- references and the one that is left over
abbrev pub with_rest : Option Ref → List Ref → List Ref
with_rest None rs = rs
with_rest (Some r) rs = put r rs

-- what must hold of a reference that is put into a set
pub record Takes (s : RefSet) (r : Ref) : Type 0 where
  pub apart : IsApart r s.refs
  pub small : limit r ≤ 2 ^ 64

-- what must hold of a set and a reference for which it is split
pub record Splits (s : RefSet) (r : Ref) : Type 0 where
  pub full : length s.refs ≡ s.capacity
  pub apart : IsApart r s.refs
  pub small : limit r ≤ 2 ^ 64
  pub aligned : AllAligned (put r s.refs)
  pub class : IsOneClass (put r s.refs)
