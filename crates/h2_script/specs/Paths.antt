-- Paths in a script.
use Rattle.std.specs.Prelude.{◌≡◌, ◌≤◌, ℕ, List, ◌∷◌, ◌++◌, length}
use Rattle.h2_dirkey.specs.Name.{slash}
use Rattle.h2_command.specs.declared.path.Path.{Path}
use Rattle.h2_dirkey.specs.PfsName.{IsPfsName}
use Rattle.h2_script.specs.Cuts.{colon}
use Rattle.h2_script.specs.Names.{SpellsNames}

-- the text is a slash and more
abbrev pub BeginsWithSlash : List ℕ → Type 0
BeginsWithSlash text = (rest : List ℕ) × (text ≡ slash ∷ rest)

-- the word is the path: the name of a PFS, a colon, a slash, and the names with a slash between each two
pub record SpellsPath (word : List ℕ) (p : Path) : Type 0 where
  pub written : (names : List ℕ) × (word ≡ p.pfs ++ colon ∷ slash ∷ names) × SpellsNames names p.names
  pub pfs_is_good : IsPfsName p.pfs

-- the word is no path
abbrev pub IsNoPath : List ℕ → Type 0
IsNoPath word = (p : Path) → SpellsPath word p → ⊥

-- the same, with one name at least
pub record SpellsEntryPath (word : List ℕ) (p : Path) : Type 0 where
  pub path : SpellsPath word p
  pub named : 1 ≤ length p.names

-- the word is no path with a name
abbrev pub IsNoEntryPath : List ℕ → Type 0
IsNoEntryPath word = (p : Path) → SpellsEntryPath word p → ⊥
