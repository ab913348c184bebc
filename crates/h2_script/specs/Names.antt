-- Names in the paths of a script.
use Rattle.std.specs.Prelude.{◌≡◌, ◌≢◌, ◌<◌, ◌≤◌, ℕ, List, length, All}
use Rattle.std.specs.List.{join_with_byte}
use Rattle.h2_dirkey.specs.Name.{slash, IsDots}

-- a byte other than a slash, a space and the control bytes 0 to 31 and 127
abbrev pub IsNameByte : ℕ → Type 0
IsNameByte b = (32 < b) × (b ≢ slash) × (b ≢ 127)

-- 1 to 255 such bytes, and neither `.` nor `..`
pub record IsEntryName (name : List ℕ) : Type 0 where
  pub some : 1 ≤ length name
  pub few : length name ≤ 255
  pub no_dots : IsDots name → ⊥
  pub bytes : All IsNameByte name

-- the text is the names, with a slash between each two
pub record SpellsNames (text : List ℕ) (names : List (List ℕ)) : Type 0 where
  pub joined : text ≡ join_with_byte slash names
  pub good : All IsEntryName names

-- the text is no such names
abbrev pub AreNoNames : List ℕ → Type 0
AreNoNames text = (names : List (List ℕ)) → SpellsNames text names → ⊥
