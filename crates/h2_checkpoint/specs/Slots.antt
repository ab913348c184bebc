-- The slots where headers stand: their bytes, and what lies in them.
use Rattle.std.specs.Prelude.{◌<◌, ℕ}
use Rattle.h2_num.specs.Places.{Places, from_place, InRange}
use Rattle.h2_geom.specs.Places.{header_bytes, header_place}

-- there are four slots
abbrev pub IsSlot : ℕ → Type 0
IsSlot s = s < 4

-- what stands in a slot
abbrev pub slot_bytes : Places → ℕ → Places
slot_bytes image s = from_place image (header_place s)

-- the byte lies in a slot
abbrev pub InSlot : ℕ → ℕ → Type 0
InSlot s k = InRange (header_place s) header_bytes k
