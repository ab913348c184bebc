-- How trees of references are read: from the bytes of an image, or from loaded nodes over one.
use Rattle.std.specs.Prelude.{ℕ, ◌^◌, List, [], ◌∷◌, ⊤}
use Rattle.h2_num.specs.Places.{Places}
use Rattle.h2_ref.specs.declared.reference.Ref.{Ref}
use Rattle.h2_set.specs.Ranges.{Rising}
use Rattle.h2_inode.specs.declared.inode.Inode.{Inode}

-- a way to read trees
pub record Access : Type 1 where
  -- a tree of references
  pub Tree : Type 0
  -- the leaves of a tree
  pub LeavesOf : Tree → List Ref → Type 0
  -- the inode that a leaf of the tree names, and the tree below it
  pub InodeOf : Tree → Ref → Inode → Tree → Type 0
  -- the name of an entry of the tree that stands in a block of its own
  pub NameOf : Tree → Ref → List ℕ → Type 0
  -- the 16384 bytes of a content block of the tree
  pub ContentOf : Tree → Ref → Places → Type 0

-- the tree has these leaves: their ranges are disjoint and ascend
pub record HasLeaves (a : Access) (t : a.Tree) (leaves : List Ref) : Type 0 where
  pub read : a.LeavesOf t leaves
  pub ordered : Rising 0 (2 ^ 64) leaves

-- the lists have the same length, and R holds of their members one by one
abbrev pub OneByOne : {X Y : Type 0} → (X → Y → Type 0) → List X → List Y → Type 0
OneByOne R [] [] = ⊤
OneByOne R [] (y ∷ ys) = ⊥
OneByOne R (x ∷ xs) [] = ⊥
OneByOne R (x ∷ xs) (y ∷ ys) = R x y × OneByOne R xs ys
