-- The names of a directory's entries, as far as a forest tells them.
use Rattle.std.specs.Prelude.{◌≡◌, ◌≤◌, ◌⊎◌, ℕ, List, length, take, Option, Some, None, slice_get}
use Rattle.h2_ref.specs.declared.reference.Dirent.{Dirent}
use Rattle.h2_ref.specs.declared.reference.Ref.{Ref}
use Rattle.h2_set.specs.Forest.{Forest}

-- the leaf is an entry that is known to have this name: it stands in the entry, or in a block that is told
pub record IsEntryNamed (f : Forest) (leaf : Ref) (name : List ℕ) : Type 0 where
  pub entry : Dirent
  pub entry_is : leaf.dirent ≡ Some entry
  pub length_is : length name ≡ entry.len
  pub name_is : ((entry.len ≤ 64) × (name ≡ take entry.len entry.name)) ⊎ ((65 ≤ entry.len) × (f.name leaf ≡ Some name))

-- the leaf is an entry that isn't known to have another name than this: a name in a block that isn't told may be any
-- of its length
pub record MayBeNamed (f : Forest) (leaf : Ref) (name : List ℕ) : Type 0 where
  pub entry : Dirent
  pub entry_is : leaf.dirent ≡ Some entry
  pub length_is : length name ≡ entry.len
  pub short : entry.len ≤ 64 → name ≡ take entry.len entry.name
  pub long : (told : List ℕ) → 65 ≤ entry.len → f.name leaf ≡ Some told → told ≡ name

-- the leaf is an entry whose name has as many bytes as this one, and a block, which alone tells whether it's this one
pub record IsLongCandidate (leaf : Ref) (name : List ℕ) : Type 0 where
  pub entry : Dirent
  pub entry_is : leaf.dirent ≡ Some entry
  pub length_is : length name ≡ entry.len
  pub long : 65 ≤ length name

-- a leaf of the list is such an entry
pub record AnyLongCandidate (leaves : List Ref) (name : List ℕ) : Type 0 where
  pub place : ℕ
  pub leaf : Ref
  pub read : slice_get leaves place ≡ Some leaf
  pub long : IsLongCandidate leaf name

-- each leaf of the list is an entry that is known to have a name
abbrev pub AllNamed : Forest → List Ref → Type 0
AllNamed f leaves = (i : ℕ) (leaf : Ref) → slice_get leaves i ≡ Some leaf → (name : List ℕ) × IsEntryNamed f leaf name

-- no leaf of the list is known to have the name
abbrev pub NoneNamed : Forest → List Ref → List ℕ → Type 0
NoneNamed f leaves name = (i : ℕ) (leaf : Ref) → slice_get leaves i ≡ Some leaf → IsEntryNamed f leaf name → ⊥

-- the leaf at the place has the name
pub record IsPlaceOfName (f : Forest) (leaves : List Ref) (name : List ℕ) (place : ℕ) : Type 0 where
  pub leaf : Ref
  pub read : slice_get leaves place ≡ Some leaf
  pub named : MayBeNamed f leaf name

-- what a search for the name came to: a leaf with the name, or that there is none
abbrev pub Scanned : Forest → List Ref → List ℕ → Option ℕ → Type 0
Scanned f leaves name None = NoneNamed f leaves name
Scanned f leaves name (Some place) = IsPlaceOfName f leaves name place
