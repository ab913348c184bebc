-- What stands of a freemap while its blocks are read in the order of their zones.
use Rattle.std.specs.Prelude.{◌≡◌, ◌<◌, ◌≤◌, ℕ, ◌+◌, ◌*◌, min, List, [], length, slice_index_or}
use Rattle.h2_codes.specs.declared.code.Code.{Code}
use Rattle.h2_ref.specs.declared.reference.Ref.{Ref}
use Rattle.h2_ref.specs.Ref.{IsValid}
use Rattle.h2_header.specs.Map.{zones_under, IsMapKind}

-- the reference names a block of the freemap
pub record NamesMapBlock (r : Ref) : Type 0 where
  pub valid : IsValid r
  pub kind : IsMapKind r.kind

-- there may be eight blocks of a level from a zone on
pub record HasRoom (level zone : ℕ) : Type 0 where
  pub levels : level ≤ 2
  pub zones : zone + zones_under level * 8 ≤ 512

-- these are as many segments as the zones of the volume before one have
abbrev pub FillsTo : ℕ → ℕ → List (List Code) → Type 0
FillsTo zones zone segments = length segments ≡ 8 * min zones zone

-- the segments are still there, and others may have been added
abbrev pub KeepsSegments : List (List Code) → List (List Code) → Type 0
KeepsSegments old new = (k : ℕ) → k < length old → slice_index_or new k [] ≡ slice_index_or old k []
