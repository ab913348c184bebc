-- Readings that give one answer at most.
use Rattle.std.specs.Prelude.{◌≡◌, ℕ, List}
use Rattle.h2_num.specs.Places.{Places, SameBelow}
use Rattle.h2_ref.specs.declared.reference.Ref.{Ref}
use Rattle.h2_inode.specs.declared.inode.Inode.{Inode}
use Rattle.h2_inode.specs.Access.{Access}

-- a tree has one list of leaves at most; a leaf names one inode with one tree, has one name, and one block
pub record IsSingle (a : Access) : Type 0 where
  pub leaves : (t : a.Tree) (l m : List Ref) → a.LeavesOf t l → a.LeavesOf t m → m ≡ l
  pub inode : (t : a.Tree) (r : Ref) (i j : Inode) (c d : a.Tree) → a.InodeOf t r i c → a.InodeOf t r j d → (j ≡ i) × (d ≡ c)
  pub name : (t : a.Tree) (r : Ref) (n m : List ℕ) → a.NameOf t r n → a.NameOf t r m → m ≡ n
  pub content : (t : a.Tree) (r : Ref) (x y : Places) → a.ContentOf t r x → a.ContentOf t r y → SameBelow 16384 x y
