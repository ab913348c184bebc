-- The bytes of a set, and what is at fault first in bytes that are none.
use Rattle.std.specs.Prelude.{◌≡◌, ◌<◌, ◌≤◌, ℕ, ◌+◌, ◌*◌, ◌^◌, nat_lt, if◌then◌else◌, List, length, slice_index_or, All, Some, None}
use Rattle.h2_num.specs.Places.{Places}
use Rattle.h2_ref.specs.declared.reference.Kind.TheVariants.{Empty}
use Rattle.h2_ref.specs.declared.reference.Ref.{Ref}
use Rattle.h2_ref.specs.Ref.{RefBytes, IsValid, empty_ref}
use Rattle.h2_ref.specs.Fault.{first_fault}
use Rattle.h2_set.specs.declared.set_decoding.SetFault.{SetFault}
use Rattle.h2_set.specs.declared.set_decoding.SetFault.TheVariants.{Reference, Shape}
use Rattle.h2_set.specs.Ranges.{Rising}

-- the 128 bytes of the reference at a place of a set, and zeros behind them
abbrev pub slot : Places → ℕ → Places
slot b i = λ k. if nat_lt k 128 then b (128 * i + k) else 0

-- a set may hold the reference: it is valid and names something
pub record IsHeld (r : Ref) : Type 0 where
  pub valid : IsValid r
  pub something : r.kind ≡ Empty → ⊥

-- the bytes of a set with room for so many references: those in order, and then empty ones
pub record SetBytes (capacity : ℕ) (refs : List Ref) (b : Places) : Type 0 where
  pub fits : length refs ≤ capacity
  pub each : (i : ℕ) (d : Ref) → i < length refs → RefBytes (slice_index_or refs i d) (slot b i)
  pub empty : (i : ℕ) → length refs ≤ i → i < capacity → RefBytes empty_ref (slot b i)

-- the references of a set, in their bytes
pub record IsSetAt (capacity : ℕ) (refs : List Ref) (b : Places) : Type 0 where
  pub held : All IsHeld refs
  pub rising : Rising 0 (2 ^ 64) refs
  pub bytes : SetBytes capacity refs b

-- each of the first n references is decoded
abbrev pub AreRefs : ℕ → Places → Type 0
AreRefs n b = (i : ℕ) → i < n → first_fault (slot b i) ≡ None

-- the reference at a place is refused
abbrev pub IsSlotFault : ℕ → Places → SetFault → Type 0
IsSlotFault i b (Reference at fault) = (at ≡ 128 * i) × (first_fault (slot b i) ≡ Some fault)
IsSlotFault i b Shape = ⊥

-- the first of n references that is refused
abbrev pub IsRefused : ℕ → Places → SetFault → Type 0
IsRefused n b fault = (i : ℕ) × (i < n) × IsSlotFault i b fault × AreRefs i b

-- what is at fault first in the bytes of so many references: one of them, or their arrangement
abbrev pub IsFaultOf : ℕ → Places → SetFault → Type 0
IsFaultOf n b (Reference at fault) = IsRefused n b (Reference at fault)
IsFaultOf n b Shape = AreRefs n b × ((refs : List Ref) → IsSetAt n refs b → ⊥)
