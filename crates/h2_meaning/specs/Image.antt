-- An image, read by its bytes.
use Rattle.std.specs.Prelude.{◌≡◌, ℕ, List, [], ◌∷◌, ◌++◌, filter, Contains, All}
use Rattle.h2_num.specs.Places.{Places, from_place, SameBelow}
use Rattle.h2_ref.specs.declared.reference.Kind.TheVariants.{Indirect}
use Rattle.h2_ref.specs.declared.reference.Ref.{Ref}
use Rattle.h2_ref.specs.Ref.{IsValid, size_of}
use Rattle.h2_set.specs.HeldTest.{names_something}
use Rattle.h2_inode.specs.Block.{IsInodeBlock, IsSetBlock, IsContentBlock, IsNameBlock, HoldsRefs, refs_of_body}
use Rattle.h2_inode.specs.Access.{Access}
use Rattle.h2_inode.specs.Following.{Passage}
use Rattle.h2_forest.specs.Forest.{PlainForest}
use Rattle.h2_meaning.specs.Forest.{IsForest}

-- the bytes from the place of the reference's block on
abbrev pub block : Places → Ref → Places
block image r = from_place image r.place

-- the leaves of references: one that names an indirect block is replaced by the leaves of that block's references
pub data LeavesIn (image : Places) : List Ref → List Ref → Type 0 where
  nothing_left : LeavesIn image [] []
  a_leaf : (r : Ref) {rs l : List Ref} → (r.kind ≡ Indirect → ⊥) → LeavesIn image rs l → LeavesIn image (r ∷ rs) (r ∷ l)
  a_block : (r : Ref) (inner : List Ref) {rs below l : List Ref} → IsSetBlock r (block image r) inner → LeavesIn image inner below → LeavesIn image rs l → LeavesIn image (r ∷ rs) (below ++ l)

-- A tree is a list of references that all name something, as an inode has them. Each block that is read passes its
-- reference.
abbrev pub in_image : Places → Access
in_image image = record {
  Tree = List Ref;
  LeavesOf = LeavesIn image;
  InodeOf = λ t r i u. IsInodeBlock r (block image r) i × (u ≡ refs_of_body i.body);
  NameOf = λ t r name. IsNameBlock r (block image r) name;
  ContentOf = λ t r b. IsContentBlock r (block image r) × SameBelow 16384 (block image r) b;
}

-- the references that name something, in their order: those but the Empty ones
abbrev pub named : List Ref → List Ref
named refs = filter (λ r. names_something r.kind) refs

-- The forest stands in the image under the super-root of a header, which has four references, and the header's next
-- PFS id. The Empty ones among the four name nothing.
abbrev pub Stands : Places → List Ref → ℕ → PlainForest → Type 0
Stands image root next f = IsForest (in_image image) (named root) next f

-- the references that blocks lead to, from some references on
pub data LeadsTo (image : Places) (roots : List Ref) : Ref → Type 0 where
  by_root : (r : Ref) → Contains roots r → LeadsTo image roots r
  by_block : (r s : Ref) (refs : List Ref) → LeadsTo image roots r → HoldsRefs r (block image r) refs → Contains refs s → LeadsTo image roots s

-- the images agree on each block that the first one leads to
abbrev pub SameReached : Places → List Ref → Places → Type 0
SameReached image roots other = (r : Ref) → LeadsTo image roots r → SameBelow (size_of r) (block image r) (block other r)

-- the reference is valid, and the image leads to it
pub record IsKnown (image : Places) (roots : List Ref) (r : Ref) : Type 0 where
  pub valid : IsValid r
  pub reached : LeadsTo image roots r

-- two images, with the trees and leaves that the first one leads to
abbrev pub between : Places → List Ref → Places → Passage
between image roots other = record {
  from = in_image image;
  to = in_image other;
  Matches = λ t u. (u ≡ t) × All (IsKnown image roots) t;
  Like = λ t u r s. (s ≡ r) × IsKnown image roots r;
}
