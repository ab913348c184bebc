-- Names of a directory's entries.
use Rattle.std.specs.Prelude.{◌≡◌, ◌<◌, ◌≤◌, ◌⊎◌, ℕ, List, [], ◌∷◌, length, Contains}
use Rattle.h2_dirkey.specs.declared.name_fault.NameFault.{NameFault}
use Rattle.h2_dirkey.specs.declared.name_fault.NameFault.TheVariants.{Empty, Long, Slash, Zero, Dot}

-- the code of a slash
abbrev pub slash : ℕ
slash = 47

-- it is `.` or `..`
abbrev pub IsDots : List ℕ → Type 0
IsDots name = (name ≡ 46 ∷ []) ⊎ (name ≡ 46 ∷ (46 ∷ []))

-- a directory's entry may have the name
pub record IsName (name : List ℕ) : Type 0 where
  pub some : 1 ≤ length name
  pub few : length name ≤ 255
  pub no_slash : Contains name slash → ⊥
  pub no_zero : Contains name 0 → ⊥
  pub no_dots : IsDots name → ⊥

-- what is wrong with the name first
abbrev pub IsFaultOf : List ℕ → NameFault → Type 0
IsFaultOf name Empty = name ≡ []
IsFaultOf name (Long n) = (255 < length name) × (n ≡ length name)
IsFaultOf name Slash = (length name ≤ 255) × Contains name slash
IsFaultOf name Zero = (length name ≤ 255) × (Contains name slash → ⊥) × Contains name 0
IsFaultOf name Dot = IsDots name
