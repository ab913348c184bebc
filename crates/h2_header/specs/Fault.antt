-- Which refusal a block that is no header meets: the first of the order, as its bytes show it.
use Rattle.std.specs.Prelude.{◌≡◌, ◌≢◌, ◌<◌, ◌≤◌, ℕ, ◌+◌, ◌*◌, ◌^◌, codes}
use Rattle.h2_num.specs.Places.{Places, places, number_at, from_place, SameBelow}
use Rattle.h2_check.specs.Crc.{crc32c_of}
use Rattle.h2_geom.specs.Geometry.{IsZoneCount}
use Rattle.h2_ref.specs.declared.reference.Ref.{Ref}
use Rattle.h2_ref.specs.Ref.{IsValid, RefBytes}
use Rattle.h2_ref.specs.Set.{MayFollow}
use Rattle.h2_header.specs.declared.fault.HeadFault.{HeadFault}
use Rattle.h2_header.specs.declared.fault.HeadFault.TheVariants.{Magic, Version, Check, Field}
use Rattle.h2_geom.specs.Places.{turn_of}
use Rattle.h2_header.specs.Map.{IsMapSlot}
use Rattle.h2_header.specs.Header.{IsRootRef}

-- the number is one of a checkpoint, and the slot's turn
pub record IsNumberOf (slot number : ℕ) : Type 0 where
  pub low : 1 ≤ number
  pub high : number ≤ 2 ^ 62
  pub in_turn : turn_of number ≡ slot

-- the id of a PFS that may come next
pub record IsNextPfs (id : ℕ) : Type 0 where
  pub low : 2 ≤ id
  pub high : id ≤ 2 ^ 62

-- the bytes of reference i of those that begin at a place
abbrev pub ref_bytes : ℕ → ℕ → Places → Places
ref_bytes at i b = from_place (from_place b at) (128 * i)

-- reference i of the super-root is right: one that it may hold is spelled there, and follows the one before
pub record IsRootAt (b : Places) (i : ℕ) : Type 0 where
  pub ref : Ref
  pub spelled : RefBytes ref (ref_bytes 512 i b)
  pub may : IsRootRef ref
  pub follows : (j : ℕ) (before : Ref) → j + 1 ≡ i → IsValid before → RefBytes before (ref_bytes 512 j b) → MayFollow before ref

-- reference i of the map is right: the one that the header's zones and map number give is spelled there
pub record IsMapAt (b : Places) (i : ℕ) : Type 0 where
  pub ref : Ref
  pub spelled : RefBytes ref (ref_bytes 1024 i b)
  pub valid : IsValid ref
  pub names : IsMapSlot (number_at b 12 4) (number_at b 24 8) i ref

-- A wrong field stands at the place: a case for each field, and for each byte that must be zero. A
-- reference is one field.
pub data IsWrongField (slot : ℕ) (b : Places) (p : ℕ) : Type 0 where
  zones : p ≡ 12 → (IsZoneCount (number_at b 12 4) → ⊥) → IsWrongField slot b p
  number : p ≡ 16 → (IsNumberOf slot (number_at b 16 8) → ⊥) → IsWrongField slot b p
  map_number : p ≡ 24 → number_at b 24 8 ≢ number_at b 16 8 → IsWrongField slot b p
  next_pfs : p ≡ 32 → (IsNextPfs (number_at b 32 8) → ⊥) → IsWrongField slot b p
  gap : 40 ≤ p → p < 512 → b p ≢ 0 → IsWrongField slot b p
  root : (i : ℕ) → i < 4 → p ≡ 512 + 128 * i → (IsRootAt b i → ⊥) → IsWrongField slot b p
  map : (i : ℕ) → i < 8 → p ≡ 1024 + 128 * i → (IsMapAt b i → ⊥) → IsWrongField slot b p
  tail : 2048 ≤ p → p < 65532 → b p ≢ 0 → IsWrongField slot b p

-- no wrong field stands before the place
abbrev pub NoneWrong : ℕ → Places → ℕ → Type 0
NoneWrong slot b p = (q : ℕ) → q < p → IsWrongField slot b q → ⊥

-- the least place of a wrong field
pub record IsFirstWrong (slot : ℕ) (b : Places) (p : ℕ) : Type 0 where
  pub here : IsWrongField slot b p
  pub none_before : NoneWrong slot b p

-- the block begins with the magic
abbrev pub HasMagic : Places → Type 0
HasMagic b = SameBelow 8 (places (codes "H2VOLUME")) b

-- the check that stands in the block
abbrev pub stored_check : Places → ℕ
stored_check b = number_at b 65532 4

-- the check of the bytes that a block has
abbrev pub computed_check : Places → ℕ
computed_check b = crc32c_of b 65532

-- the first refusal of a block: a case for each, in their order
pub data IsHeadFault (slot : ℕ) (b : Places) : HeadFault → Type 0 where
  bad_magic : (HasMagic b → ⊥) → IsHeadFault slot b Magic
  bad_version : HasMagic b → number_at b 8 4 ≢ 1 → IsHeadFault slot b (Version (number_at b 8 4))
  bad_check : HasMagic b → number_at b 8 4 ≡ 1 → stored_check b ≢ computed_check b
      → IsHeadFault slot b (Check (stored_check b) (computed_check b))
  bad_field : (p : ℕ) → HasMagic b → number_at b 8 4 ≡ 1 → stored_check b ≡ computed_check b → IsFirstWrong slot b p → IsHeadFault slot b (Field p)
