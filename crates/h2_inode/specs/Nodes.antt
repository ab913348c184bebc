-- A forest with inodes: what the root of an inode's tree holds beside its set, which leaf names it, and what each
-- call over inodes changes.
use Rattle.std.specs.Prelude.{◌≡◌, ◌⊎◌, ◌↔◌, ℕ, ◌+◌, ◌^◌, ◌<◌, ◌≤◌, true, false, List, [], slice_get, Option, Some, None}
use Rattle.h2_ref.specs.declared.reference.Kind.{Kind}
use Rattle.h2_ref.specs.declared.reference.Kind.TheVariants.{Inode as Inode_kind, Indirect, Content, Dirent}
use Rattle.h2_ref.specs.declared.reference.Ref.{Ref}
use Rattle.h2_set.specs.Ranges.{Rising, IsAligned, is_indirect}
use Rattle.h2_set.specs.RefSet.{RefSet, IsRefSet}
use Rattle.h2_set.specs.SetBytes.{IsHeld}
use Rattle.h2_set.specs.Forest.{Forest, refs, told, Reaches, IsSound, LeavesOf, IsRootOf}
use Rattle.h2_set.specs.Calls.{InPlace, Same, Stays, GoesBelow, GoesWith}
use Rattle.h2_inode.specs.declared.kind.InodeKind.{InodeKind}
use Rattle.h2_inode.specs.declared.kind.InodeKind.TheVariants.{Directory, File, Pfs}
use Rattle.h2_inode.specs.declared.inode.Body.{Body}
use Rattle.h2_inode.specs.declared.inode.Body.TheVariants.{Refs, Bytes}
use Rattle.h2_inode.specs.declared.inode.Inode.{Inode}
use Rattle.h2_inode.specs.Inode.{keys_from, IsInode}
use Rattle.h2_inode.specs.Block.{refs_of_body}

-- An inode is its set, and what it holds beside it

-- all of an inode but its set; the bytes, where its body is bytes
pub record Fields : Type 0 where
  pub kind : InodeKind
  pub number : ℕ
  pub size : ℕ
  pub links : ℕ
  pub next : ℕ
  pub name : List ℕ
  pub bytes : Option (List ℕ)

-- the bytes of a body that is bytes
abbrev pub bytes_of : Body → Option (List ℕ)
bytes_of (Refs s) = None
bytes_of (Bytes bytes) = Some bytes

-- the fields of an inode
abbrev pub fields_of : Inode → Fields
fields_of i = record { kind = i.kind; number = i.number; size = i.size; links = i.links; next = i.next; name = i.name; bytes = bytes_of i.body }

-- the set of a body; one that is bytes has none, which counts as an empty one
abbrev pub set_of : Body → RefSet
set_of (Refs s) = s
set_of (Bytes bytes) = record { refs = []; capacity = 4 }

-- what the roots hold of inodes, by what the implementer keeps beside their sets
abbrev pub held_by : {B : Type 0} → (B → Option Fields) → (ℕ → B) → ℕ → Option Fields
held_by fields beside = λ m. fields (beside m)

-- Trees of inodes

-- the kind of the leaves, by the kind of the inode
abbrev pub leaf_kind : InodeKind → Kind
leaf_kind Directory = Dirent
leaf_kind File = Content
leaf_kind Pfs = Inode_kind

-- the keybits of the leaves, by the kind of the inode
abbrev pub leaf_keybits : InodeKind → ℕ
leaf_keybits Directory = 0
leaf_keybits File = 14
leaf_keybits Pfs = 0

-- Which leaves an inode's tree may have: those of its kind that can be written. One whose body is bytes has no set,
-- and may have none.
abbrev pub MayHave : InodeKind → Body → Ref → Type 0
MayHave kind (Refs s) r = (r.kind ≡ leaf_kind kind) × IsHeld r
MayHave kind (Bytes bytes) r = ⊥

-- the tree of a root has the keys and the leaves of such an inode
pub record IsTreeOf (f : Forest) (at : ℕ) (kind : InodeKind) (body : Body) : Type 0 where
  pub low : f.low at ≡ keys_from kind
  pub bits : f.bits at ≡ 63
  pub leaf_bits : f.leaf_bits at ≡ leaf_keybits kind
  pub allows : (r : Ref) → (f.allows at r ≡ true) ↔ MayHave kind body r

-- node at is the root of the inode
pub record HasInode (f : Forest) (holds : ℕ → Option Fields) (at : ℕ) (i : Inode) : Type 0 where
  pub stands : f.stands at ≡ true
  pub root : f.root at ≡ at
  pub tree : IsTreeOf f at i.kind i.body
  pub fields : holds at ≡ Some (fields_of i)
  pub set : f.set at ≡ set_of i.body

-- Leaves that name inodes

-- the tree of root top has the leaf of an inode, and its path is loaded
pub record IsInodeLeaf (f : Forest) (top : ℕ) (leaf : Ref) : Type 0 where
  pub stands : f.stands top ≡ true
  pub root : f.root top ≡ top
  pub kind : leaf.kind ≡ Inode_kind
  pub path : Reaches f leaf.key top (Some leaf)

-- each leaf names one root at most
abbrev pub NamesOne : Forest → Type 0
NamesOne f = (top key c d : ℕ) → IsRootOf f top key c → IsRootOf f top key d → d ≡ c

-- the inode that the leaf with this key names isn't loaded
abbrev pub IsUnloaded : Forest → ℕ → ℕ → Type 0
IsUnloaded f top key = (c : ℕ) → IsRootOf f top key c → ⊥

-- of what the leaf with this key in the tree of root top names nothing is loaded: no root stands that belongs to it
abbrev pub IsBare : Forest → ℕ → ℕ → Type 0
IsBare f top key = (c : ℕ) → f.stands c ≡ true → f.root c ≡ c → f.belongs c top key ≡ true → ⊥

-- what the block of an inode is known to hold: the inode, and the leaves of its tree
pub record Told : Type 0 where
  pub inode : Inode
  pub leaves : List Ref

-- node c is the root of the inode that is told, and has the leaves that are
pub record IsAsTold (f : Forest) (holds : ℕ → Option Fields) (c : ℕ) (told : Told) : Type 0 where
  pub inode : HasInode f holds c told.inode
  pub leaves : LeavesOf f c told.leaves

-- a new inode may be planted: it can be spelled, and each indirect reference of its set has room for a leaf
pub record IsPlantable (i : Inode) : Type 0 where
  pub inode : IsInode i
  pub wide : (j : ℕ) (r : Ref) → slice_get (refs_of_body i.body) j ≡ Some r → r.kind ≡ Indirect → leaf_keybits i.kind ≤ r.keybits

-- a reference that the root of an inode with references may have
pub record FitsIn (kind : InodeKind) (r : Ref) : Type 0 where
  pub held : IsHeld r
  pub aligned : IsAligned r
  pub class : (r.key < 2 ^ 62) ⊎ (2 ^ 63 ≤ r.key)
  pub leaf : is_indirect r ≡ false → r.keybits ≡ leaf_keybits kind
  pub allowed : is_indirect r ≡ false → r.kind ≡ leaf_kind kind
  pub wide : is_indirect r ≡ true → leaf_keybits kind ≤ r.keybits
  pub some_bits : is_indirect r ≡ true → 0 < r.keybits
  pub falls : is_indirect r ≡ true → r.keybits < 63

-- A set that the root of an inode may be given with a new body. This is Storable of h2_set, but that what fits is told
-- by the kind: a body of bytes, whose tree may have no leaf, may be replaced by references.
pub record Replaceable (f : Forest) (at : ℕ) (kind : InodeKind) (s : RefSet) : Type 0 where
  pub capacity : s.capacity ≡ 4
  pub set : IsRefSet s
  pub inside : Rising (keys_from kind) (keys_from kind + 2 ^ 63) s.refs
  pub fits : (i : ℕ) (r : Ref) → slice_get s.refs i ≡ Some r → FitsIn kind r
  -- each indirect reference stood there before
  pub stood : (i : ℕ) (r : Ref) → slice_get s.refs i ≡ Some r → is_indirect r ≡ true → (j : ℕ) × (slice_get (refs f at) j ≡ Some r)
  -- what goes isn't held
  pub free : (m : ℕ) → f.stands m ≡ true → GoesWith f m at s → f.held m ≡ false

-- What the calls change

-- Nothing changed but that c stands: the nodes that stood are the same, and there is no other new one. Of what no
-- call changes, the rules of a new root are its own.
pub record Brings (f g : Forest) (c : ℕ) : Type 0 where
  pub sound : IsSound g
  pub same : (m : ℕ) → f.stands m ≡ true → Same f g m
  pub leaf_bits : (m : ℕ) → f.stands m ≡ true → g.leaf_bits m ≡ f.leaf_bits m
  pub allows : (m : ℕ) (r : Ref) → f.stands m ≡ true → g.allows m r ≡ f.allows m r
  pub new : (m : ℕ) → g.stands m ≡ true → (m ≡ c) ⊎ (f.stands m ≡ true)
  pub held : (m : ℕ) → g.held m ≡ f.held m
  pub name : (r : Ref) → g.name r ≡ f.name r
  pub epoch : g.epoch ≡ f.epoch
  pub room : g.room ≡ f.room

-- the inode that the leaf names is loaded, with root c; where it was so already, nothing else came
pub record Seeks (f g : Forest) (top key c : ℕ) : Type 0 where
  pub brings : Brings f g c
  pub named : IsRootOf g top key c
  -- a root that came is named by this leaf alone
  pub only : f.stands c ≡ false → (t k : ℕ) → IsRootOf g t k c → (t ≡ top) × (k ≡ key)
  pub loaded : (d : ℕ) → IsRootOf f top key d → c ≡ d
  -- a root that is loaded isn't writable
  pub clean : f.stands c ≡ false → g.writable c ≡ false
  pub spare : g.spare ≡ f.spare
  pub failed : f.failed ≤ g.failed
  pub bad : f.bad ≤ g.bad

-- Nothing but loads took place, of indirect blocks and of inodes; all else is as before, but for the two counts and
-- which bad block was met last. This is Walks of h2_set, but that the rules of a new root are its own.
pub record Visits (f g : Forest) : Type 0 where
  pub sound : IsSound g
  pub stays : (m : ℕ) → f.stands m ≡ true → Stays f g m
  pub sets : (m : ℕ) → f.stands m ≡ true → g.set m ≡ f.set m
  pub writable : (m : ℕ) → f.stands m ≡ true → g.writable m ≡ f.writable m
  -- what was loaded isn't writable
  pub clean : (m : ℕ) → f.stands m ≡ false → g.stands m ≡ true → g.writable m ≡ false
  pub copies : (m : ℕ) → f.stands m ≡ true → g.copies m ≡ f.copies m
  -- where each leaf named one root at most, it does so
  pub names_one : IsSound f → NamesOne f → NamesOne g
  pub leaf_bits : (m : ℕ) → f.stands m ≡ true → g.leaf_bits m ≡ f.leaf_bits m
  pub allows : (m : ℕ) (r : Ref) → f.stands m ≡ true → g.allows m r ≡ f.allows m r
  pub held : (m : ℕ) → g.held m ≡ f.held m
  pub name : (r : Ref) → g.name r ≡ f.name r
  pub epoch : g.epoch ≡ f.epoch
  pub spare : g.spare ≡ f.spare
  pub room : g.room ≡ f.room
  pub failed : f.failed ≤ g.failed
  pub bad : f.bad ≤ g.bad

-- root c is new and writable, and the leaf names it
pub record Plants (f g : Forest) (top key c : ℕ) : Type 0 where
  pub brings : Brings f g c
  pub fresh : f.stands c ≡ false
  pub named : IsRootOf g top key c
  -- it is named by this leaf alone
  pub only : (t k : ℕ) → IsRootOf g t k c → (t ≡ top) × (k ≡ key)
  -- what is told below an indirect reference elsewhere is told below it here
  pub told_alike : (m i j : ℕ) (r : Ref) (l : List Ref) → f.stands m ≡ true → slice_get (refs f m) i ≡ Some r → slice_get (refs g c) j ≡ Some r → is_indirect r ≡ true → f.link m r.key ≡ told l → g.link c r.key ≡ told l
  pub writable : g.writable c ≡ true
  pub spare : g.spare + 1 ≡ f.spare
  pub failed : g.failed ≡ f.failed
  pub bad : g.bad ≡ f.bad
  pub met : g.met ≡ f.met

-- The set of root at is s now, and what stands below references that it lacks is gone. This is Stores of h2_set, but
-- that the leaves which the tree may have are those of the new body.
pub record Replaces (f g : Forest) (at : ℕ) (s : RefSet) : Type 0 where
  pub sound : IsSound g
  pub leaf_bits : (m : ℕ) → f.stands m ≡ true → g.stands m ≡ true → g.leaf_bits m ≡ f.leaf_bits m
  pub allows : (m : ℕ) (r : Ref) → f.stands m ≡ true → g.stands m ≡ true → (m ≡ at → ⊥) → g.allows m r ≡ f.allows m r
  pub held : (m : ℕ) → g.held m ≡ f.held m
  pub name : (r : Ref) → g.name r ≡ f.name r
  pub epoch : g.epoch ≡ f.epoch
  pub set : g.set at ≡ s
  pub place : InPlace f g at
  pub copies : g.copies at ≡ f.copies at
  pub link : (i : ℕ) (r : Ref) → slice_get s.refs i ≡ Some r → is_indirect r ≡ true → g.link at r.key ≡ f.link at r.key
  pub others : (m : ℕ) → f.stands m ≡ true → (m ≡ at → ⊥) → (GoesBelow f m at s → ⊥) → (GoesWith f m at s → ⊥) → Same f g m
  pub gone : (m : ℕ) → f.stands m ≡ true → GoesBelow f m at s ⊎ GoesWith f m at s → g.stands m ≡ false
  pub none_new : (m : ℕ) → g.stands m ≡ true → f.stands m ≡ true
  pub spare : g.spare ≡ f.spare
  pub room : g.room ≡ f.room
  pub failed : g.failed ≡ f.failed
  pub bad : g.bad ≡ f.bad
  pub met : g.met ≡ f.met

-- what all roots but one keep beside their sets stays, where they stand before and after
pub record KeepsOthersBeside {B : Type 0} (f g : Forest) (at : ℕ) (old new : ℕ → B) : Type 0 where
  pub same : (m : ℕ) → (m ≡ at → ⊥) → f.stands m ≡ true → g.stands m ≡ true → new m ≡ old m
