-- What giving a file another size does.
use Rattle.std.specs.Prelude.{◌≡◌, ℕ, true, Option, Some, slice_get}
use Rattle.h2_ref.specs.declared.reference.Ref.{Ref}
use Rattle.h2_set.specs.Ranges.{is_indirect}
use Rattle.h2_set.specs.RefSet.{RefSet}
use Rattle.h2_set.specs.Forest.{Forest, refs, KeepsLeaves, IsSound, Reaches}
use Rattle.h2_set.specs.Calls.{InPlace, Same}
use Rattle.h2_inode.specs.declared.inode.Body.TheVariants.{Refs}
use Rattle.h2_inode.specs.declared.inode.Inode.{Inode}
use Rattle.h2_inode.specs.Nodes.{Fields, HasInode}

-- the inode with this size and these references; all else of it is as it was
pub record IsResized (old new : Inode) (size : ℕ) (set : RefSet) : Type 0 where
  pub kind : new.kind ≡ old.kind
  pub number : new.number ≡ old.number
  pub size_is : new.size ≡ size
  pub links : new.links ≡ old.links
  pub next : new.next ≡ old.next
  pub name : new.name ≡ old.name
  pub body : new.body ≡ Refs set

-- node at is the root of that inode, resized
pub record HasResized (g : Forest) (holds : ℕ → Option Fields) (at : ℕ) (old : Inode) (size : ℕ) : Type 0 where
  pub inode : Inode
  pub has : HasInode g holds at inode
  pub is : IsResized old inode size (g.set at)

-- the inode of root at was given another size, and no set changed
pub record Sizes (f g : Forest) (at : ℕ) : Type 0 where
  pub sound : IsSound g
  pub leaf_bits : (m : ℕ) → f.stands m ≡ true → g.leaf_bits m ≡ f.leaf_bits m
  pub allows : (m : ℕ) (r : Ref) → f.stands m ≡ true → g.allows m r ≡ f.allows m r
  pub held : (m : ℕ) → g.held m ≡ f.held m
  pub name : (r : Ref) → g.name r ≡ f.name r
  pub epoch : g.epoch ≡ f.epoch
  pub failed : g.failed ≡ f.failed
  pub bad : g.bad ≡ f.bad
  pub place : InPlace f g at
  pub set : g.set at ≡ f.set at
  pub link : (i : ℕ) (r : Ref) → slice_get (refs f at) i ≡ Some r → is_indirect r ≡ true → g.link at r.key ≡ f.link at r.key
  pub copies : g.copies at ≡ f.copies at
  pub leaves : KeepsLeaves f g at
  pub paths : (key : ℕ) (o : Option Ref) → Reaches f key at o → Reaches g key at o
  pub others : (m : ℕ) → f.stands m ≡ true → (m ≡ at → ⊥) → Same f g m
  pub none_new : (m : ℕ) → g.stands m ≡ true → f.stands m ≡ true
  pub spare : g.spare ≡ f.spare
  pub room : g.room ≡ f.room
