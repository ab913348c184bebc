-- A forest of sets: trees whose nodes have a set of references each, some of them loaded.
use Rattle.std.specs.Prelude.{◌≡◌, ℕ, ◌+◌, ◌%◌, ◌^◌, ◌≤◌, ◌<◌, ◌⊎◌, ◌↔◌, cond, Bool, true, false, List, [], ◌∷◌, ◌++◌, length, Option, Some, None, slice_get}
use Rattle.h2_ref.specs.declared.reference.Ref.{Ref}
use Rattle.h2_ref.specs.declared.reference.Kind.TheVariants.{Inode}
use Rattle.h2_ref.specs.declared.faults.Why.{Why}
use Rattle.h2_set.specs.Ranges.{Rising, limit, holds, NoneHolds, IsAligned, is_indirect}
use Rattle.h2_set.specs.RefSet.{RefSet, IsRefSet}
use Rattle.h2_set.specs.SetBytes.{IsHeld}

-- what is below an indirect reference: a loaded node, or a block whose leaves the disk tells, or not even that
pub data Link : Type 0 where
  loaded : ℕ → Link
  told : List Ref → Link
  untold : Link

-- what is known of the loaded nodes of trees and of their disk
pub record Forest : Type 0 where
  -- whether a node is loaded and stands
  pub stands : ℕ → Bool
  pub set : ℕ → RefSet
  -- what is below a node, by the key of its indirect reference
  pub link : ℕ → ℕ → Link
  -- the root of the node's tree
  pub root : ℕ → ℕ
  -- the node's range of keys: from low, 2 ^ bits long
  pub low : ℕ → ℕ
  pub bits : ℕ → ℕ
  -- of a root, the keybits of the leaves of its tree
  pub leaf_bits : ℕ → ℕ
  -- of a root, whether its tree may have the leaf
  pub allows : ℕ → Ref → Bool
  -- whether node m belongs to what the leaf with this key names in the tree of this root, or stands below that
  pub belongs : ℕ → ℕ → ℕ → Bool
  -- whether a root is held
  pub held : ℕ → Bool
  -- how many nodes from this one up to below the root aren't writable, and are copied when it is altered
  pub copies : ℕ → ℕ
  -- whether a node is writable in this epoch
  pub writable : ℕ → Bool
  -- the name of a directory's entry, where it is told
  pub name : Ref → Option (List ℕ)
  pub epoch : ℕ
  -- how many nodes can be made without taking memory
  pub spare : ℕ
  -- how many blocks can be taken
  pub room : ℕ
  -- faults of the disk, and bad blocks that were met
  pub failed : ℕ
  pub bad : ℕ
  -- where the last bad block lies that was met, and what is wrong with it
  pub met : Option (ℕ × Why)

-- the references in the set of a node
abbrev pub refs : Forest → ℕ → List Ref
refs f at = let s = f.set at in s.refs

-- The leaves of references rs of node at, where they are known.
-- An indirect reference stands for the leaves below it, which lie in its range.
pub data HasLeaves (f : Forest) : ℕ → List Ref → List Ref → Type 0 where
  done : {at : ℕ} → HasLeaves f at [] []
  one : {at : ℕ} {r : Ref} {rs l : List Ref} → is_indirect r ≡ false → HasLeaves f at rs l → HasLeaves f at (r ∷ rs) (r ∷ l)
  near : {at c : ℕ} {r : Ref} {rs below l : List Ref} → is_indirect r ≡ true → f.link at r.key ≡ loaded c → HasLeaves f c (refs f c) below → Rising r.key (limit r) below → HasLeaves f at rs l → HasLeaves f at (r ∷ rs) (below ++ l)
  far : {at : ℕ} {r : Ref} {rs below l : List Ref} → is_indirect r ≡ true → f.link at r.key ≡ told below → Rising r.key (limit r) below → HasLeaves f at rs l → HasLeaves f at (r ∷ rs) (below ++ l)

-- the leaves below node at are l, in order of their keys
abbrev pub LeavesOf : Forest → ℕ → List Ref → Type 0
LeavesOf f at l = HasLeaves f at (refs f at) l

-- every leaf list that one tree is known to have, the other has
abbrev pub KeepsLeaves : Forest → Forest → ℕ → Type 0
KeepsLeaves f g at = (l : List Ref) → LeavesOf f at l → LeavesOf g at l

-- c is a node right below m, at its key k
pub record IsChild (f : Forest) (m k c : ℕ) : Type 0 where
  pub stands : f.stands c ≡ true
  pub root : f.root c ≡ f.root m
  pub low : f.low c ≡ k
  pub above : f.low m ≤ f.low c
  pub within : f.low c + 2 ^ f.bits c ≤ f.low m + 2 ^ f.bits m
  pub fewer : f.bits c < f.bits m
  pub copies : f.copies c ≡ f.copies m + cond (f.writable c) 0 1
  pub belongs : (top key : ℕ) → f.belongs c top key ≡ f.belongs m top key

-- a reference that may stand in node m
pub record Fits (f : Forest) (m : ℕ) (r : Ref) : Type 0 where
  pub aligned : IsAligned r
  -- no key lies from 2^62 up to below 2^63, so that those of one half of all keys lie in 2^62 or 2^63 of them
  pub class : (r.key < 2 ^ 62) ⊎ (2 ^ 63 ≤ r.key)
  -- a leaf is one that the tree may have, as long as all others
  pub leaf : is_indirect r ≡ false → r.keybits ≡ f.leaf_bits (f.root m)
  pub allowed : is_indirect r ≡ false → f.allows (f.root m) r ≡ true
  -- an indirect reference can be written: it is valid, and names something
  pub held : is_indirect r ≡ true → IsHeld r
  -- it has room for a leaf, and keybits that fall on the way down
  pub wide : is_indirect r ≡ true → f.leaf_bits (f.root m) ≤ r.keybits
  pub some_bits : is_indirect r ≡ true → 0 < r.keybits
  pub falls : is_indirect r ≡ true → r.keybits < f.bits m

-- an indirect reference of the list has the key
pub record NamesBelow (rs : List Ref) (k : ℕ) : Type 0 where
  pub place : ℕ
  pub ref : Ref
  pub read : slice_get rs place ≡ Some ref
  pub indirect : is_indirect ref ≡ true
  pub key : ref.key ≡ k

-- what stands of a node at any time: ranges lie in ranges, and their bits fall
pub record IsSoundNode (f : Forest) (m : ℕ) : Type 0 where
  pub set : IsRefSet (f.set m)
  -- a root's set has room for 4 references, and that of an indirect block for 32
  pub root_capacity : f.root m ≡ m → let s = f.set m in s.capacity ≡ 4
  pub block_capacity : (f.root m ≡ m → ⊥) → let s = f.set m in s.capacity ≡ 32
  pub inside : Rising (f.low m) (f.low m + 2 ^ f.bits m) (refs f m)
  pub aligned : f.low m % 2 ^ f.bits m ≡ 0
  pub ends : f.low m + 2 ^ f.bits m ≤ 2 ^ 64
  pub fits : (i : ℕ) (r : Ref) → slice_get (refs f m) i ≡ Some r → Fits f m r
  -- an indirect block holds at least one reference
  pub some : (f.root m ≡ m → ⊥) → 0 < length (refs f m)
  pub child : (k c : ℕ) → f.link m k ≡ loaded c → IsChild f m k c
  pub named : (k c : ℕ) → f.link m k ≡ loaded c → NamesBelow (refs f m) k
  pub bits : (i c : ℕ) (r : Ref) → slice_get (refs f m) i ≡ Some r → is_indirect r ≡ true → f.link m r.key ≡ loaded c → f.bits c ≡ r.keybits
  pub top : f.root m ≡ m → f.copies m ≡ 0
  -- the range of a root is one half of all keys
  pub half : f.root m ≡ m → f.bits m ≡ 63
  -- a path is no longer than its bits fall, and an indirect block has one at least: so there are at most 62 below a root
  pub slope : f.copies m + f.bits m ≤ 63

-- the loaded nodes on the key's path lead to this leaf, or to none
pub data Reaches (f : Forest) (key : ℕ) : ℕ → Option Ref → Type 0 where
  nowhere : {at : ℕ} → NoneHolds key (refs f at) → Reaches f key at None
  here : {at : ℕ} {r : Ref} → (i : ℕ) → slice_get (refs f at) i ≡ Some r → holds key r ≡ true → is_indirect r ≡ false → Reaches f key at (Some r)
  below : {at c : ℕ} {r : Ref} {o : Option Ref} → (i : ℕ) → slice_get (refs f at) i ≡ Some r → holds key r ≡ true → is_indirect r ≡ true → f.link at r.key ≡ loaded c → Reaches f key c o → Reaches f key at o

-- Node m belongs to the leaf with this key of the tree of root top, which is another tree than its own. The leaf names
-- an inode, and its path is loaded.
pub record HasOwner (f : Forest) (m top key : ℕ) : Type 0 where
  pub other : f.root m ≡ top → ⊥
  pub stands : f.stands top ≡ true
  pub root : f.root top ≡ top
  pub leaf : Ref
  pub key_is : leaf.key ≡ key
  pub kind_is : leaf.kind ≡ Inode
  pub path : Reaches f key top (Some leaf)

-- Root c is that of the inode which the leaf with this key names in the tree of root top: it belongs to that leaf, to
-- all that the tree of top belongs to, and to nothing else.
pub record IsRootOf (f : Forest) (top key c : ℕ) : Type 0 where
  pub stands : f.stands c ≡ true
  pub root : f.root c ≡ c
  pub belongs : (t k : ℕ) → (f.belongs c t k ≡ true) ↔ (((t ≡ top) × (k ≡ key)) ⊎ (f.belongs top t k ≡ true))

-- what belongs to a leaf stands with the root of its inode
pub record IsOfInode (f : Forest) (m top key : ℕ) : Type 0 where
  -- the root
  pub inode : ℕ
  pub named : IsRootOf f top key inode
  -- node m is in its tree, or belongs to a leaf of it
  pub within : (f.root m ≡ inode) ⊎ ((j : ℕ) × (f.belongs m inode j ≡ true))

-- node m is loaded right below a node that stands
pub record HasParent (f : Forest) (m : ℕ) : Type 0 where
  pub parent : ℕ
  pub stands : f.stands parent ≡ true
  pub link : f.link parent (f.low m) ≡ loaded m

-- what holds of every forest, between any two calls
pub record IsSound (f : Forest) : Type 0 where
  pub node : (m : ℕ) → f.stands m ≡ true → IsSoundNode f m
  -- what is held is a root that stands
  pub held : (m : ℕ) → f.held m ≡ true → (f.stands m ≡ true) × (f.root m ≡ m)
  -- the root of a node stands and is its own, and each other node stands below one that stands
  pub top : (m : ℕ) → f.stands m ≡ true → (f.stands (f.root m) ≡ true) × (f.root (f.root m) ≡ f.root m)
  pub parent : (m : ℕ) → f.stands m ≡ true → (f.root m ≡ m → ⊥) → HasParent f m
  pub owner : (m top key : ℕ) → f.stands m ≡ true → f.belongs m top key ≡ true → HasOwner f m top key
  pub inode : (m top key : ℕ) → f.stands m ≡ true → f.belongs m top key ≡ true → IsOfInode f m top key
  -- it belongs to all that the leaf's own tree belongs to, too
  pub chain : (m t k u j : ℕ) → f.stands m ≡ true → f.belongs m t k ≡ true → f.belongs t u j ≡ true → f.belongs m u j ≡ true
  -- the epoch is the number of a checkpoint, so that what is new can be written
  pub epoch : (1 ≤ f.epoch) × (f.epoch ≤ 2 ^ 62)
