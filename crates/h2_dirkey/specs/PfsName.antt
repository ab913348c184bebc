-- Names of PFSs.
use Rattle.std.specs.Prelude.{◌≡◌, ◌⊎◌, ℕ, ◌≤◌, List, length, All}

-- a letter, a digit, '.', '_' or '-'
abbrev pub IsPfsNameByte : ℕ → Type 0
IsPfsNameByte b = ((48 ≤ b) × (b ≤ 57)) ⊎ (((65 ≤ b) × (b ≤ 90)) ⊎ (((97 ≤ b) × (b ≤ 122)) ⊎ ((b ≡ 46) ⊎ ((b ≡ 95) ⊎ (b ≡ 45)))))

-- the name of a PFS has 1 to 64 such bytes
pub record IsPfsName (name : List ℕ) : Type 0 where
  pub some : 1 ≤ length name
  pub few : length name ≤ 64
  pub bytes : All IsPfsNameByte name
