-- References one after the other, and sets of them.
use Rattle.std.specs.Prelude.{◌≡◌, ◌⊎◌, ◌<◌, ◌≤◌, ℕ, ◌+◌, ◌*◌, ◌^◌, List, length, slice_index_or}
use Rattle.std.specs.List.{AllAdjacentBelow}
use Rattle.h2_num.specs.Places.{Places, from_place}
use Rattle.h2_ref.specs.declared.reference.Kind.TheVariants.{Empty}
use Rattle.h2_ref.specs.declared.reference.Ref.{Ref}
use Rattle.h2_ref.specs.Ref.{RefBytes}

-- the bytes of references, one after the other
abbrev pub RefsBytes : List Ref → Places → Type 0
RefsBytes refs b = (i : ℕ) (d : Ref) → i < length refs → RefBytes (slice_index_or refs i d) (from_place b (128 * i))

-- a reference may stand after another: it is empty, or the other isn't and its range ends before this one's begins
abbrev pub MayFollow : Ref → Ref → Type 0
MayFollow r s = (s.kind ≡ Empty) ⊎ ((r.kind ≡ Empty → ⊥) × (r.key + 2 ^ r.keybits ≤ s.key))

-- a set: references whose ranges ascend and are disjoint, and then empty ones
abbrev pub IsSet : List Ref → Type 0
IsSet refs = AllAdjacentBelow MayFollow refs (length refs)
