-- What a change of the list of PFSs leaves of all other trees.
use Rattle.std.specs.Prelude.{◌≡◌, ℕ, true}
use Rattle.h2_set.specs.Forest.{Forest}
use Rattle.h2_inode.specs.Loaded.{View}
use Rattle.h2_inode.specs.Others.{KeepsTree}

-- node m belongs to no leaf, as the super-root
abbrev pub BelongsToNone : Forest → ℕ → Type 0
BelongsToNone f m = (top key : ℕ) → f.belongs m top key ≡ true → ⊥

-- where the super-root belongs to no leaf, the trees of all other roots stay, but of those that go
abbrev pub KeepsOtherTrees : View → View → ℕ → (ℕ → Type 0) → Type 0
KeepsOtherTrees u v top goes =
    BelongsToNone u.forest top → (c : ℕ) → u.forest.stands c ≡ true → u.forest.root c ≡ c → (c ≡ top → ⊥) → (goes c → ⊥) → KeepsTree u v c

-- root m is another than the super-root, and doesn't belong to its leaf with this key
pub record IsOtherRoot (f : Forest) (top key m : ℕ) : Type 0 where
  pub stands : f.stands m ≡ true
  pub root : f.root m ≡ m
  pub other : m ≡ top → ⊥
  pub stays : f.belongs m top key ≡ true → ⊥
