-- What the calls over a forest of sets do to it: loads, changes of what is writable, stored sets and splits.
use Rattle.std.specs.Prelude.{◌≡◌, ℕ, ◌+◌, ◌^◌, ◌≤◌, ◌<◌, ◌⊎◌, Bool, true, false, List, [], ◌∷◌, length, Some, slice_get, filter, not}
use Rattle.h2_num.specs.Causes.{Rose, one_more}
use Rattle.h2_ref.specs.declared.reference.Ref.{Ref}
use Rattle.h2_ref.specs.declared.reference.Kind.{Kind}
use Rattle.h2_ref.specs.declared.reference.Kind.TheVariants.{Empty, Inode, Indirect, Content, Dirent, MapNode, MapLeaf}
use Rattle.h2_ref.specs.declared.faults.Trouble.{Trouble}
use Rattle.h2_ref.specs.declared.faults.Trouble.TheVariants.{Failed, Bad, NoMemory}
use Rattle.h2_set.specs.Ranges.{Rising, limit, holds, IsApart, put, lies, is_indirect}
use Rattle.h2_set.specs.RefSet.{RefSet, IsRefSet, IsSplitOf, with_rest}
use Rattle.h2_set.specs.declared.set.Split.{Split}
use Rattle.h2_set.specs.Forest.{Forest, refs, LeavesOf, Fits, Reaches, IsSound, IsRootOf, loaded, told}

-- the same reference, but for where the block of an indirect one lies
pub record IsAlike (r q : Ref) : Type 0 where
  pub kind : q.kind ≡ r.kind
  pub key : q.key ≡ r.key
  pub keybits : q.keybits ≡ r.keybits
  pub radix : q.radix ≡ r.radix
  pub dirent : q.dirent ≡ r.dirent
  pub leaf : is_indirect r ≡ false → q ≡ r

-- the same references, but for where the blocks of indirect ones lie
abbrev pub Alike : List Ref → List Ref → Type 0
Alike [] [] = Unit {0}
Alike [] (q ∷ qs) = ⊥
Alike (r ∷ rs) [] = ⊥
Alike (r ∷ rs) (q ∷ qs) = IsAlike r q × Alike rs qs

-- whether the block of a reference is a node, which gets another place when it is changed
abbrev pub names_node : Kind → Bool
names_node Empty = false
names_node Inode = true
names_node Indirect = true
names_node Content = false
names_node Dirent = false
names_node MapNode = false
names_node MapLeaf = false

-- the same reference, but for where the block of an inode or an indirect one lies: place, id and check
pub record IsRenewed (r q : Ref) : Type 0 where
  pub kind : q.kind ≡ r.kind
  pub key : q.key ≡ r.key
  pub keybits : q.keybits ≡ r.keybits
  pub radix : q.radix ≡ r.radix
  pub dirent : q.dirent ≡ r.dirent
  pub others : names_node r.kind ≡ false → q ≡ r

-- the same references, but for where the blocks of inodes and indirect ones lie
abbrev pub AllRenewed : List Ref → List Ref → Type 0
AllRenewed [] [] = Unit {0}
AllRenewed [] (q ∷ qs) = ⊥
AllRenewed (r ∷ rs) [] = ⊥
AllRenewed (r ∷ rs) (q ∷ qs) = IsRenewed r q × AllRenewed rs qs

-- the leaves l are told at key k of node m, or those of the node there
abbrev pub Below : Forest → ℕ → ℕ → List Ref → Type 0
Below f m k l = (f.link m k ≡ told l) ⊎ ((c : ℕ) × (f.link m k ≡ loaded c) × LeavesOf f c l)

-- What no call changes: of each tree that stands before and after what leaves it may have, which roots are held, the
-- epoch and the names. The two counts never fall.
pub record Fixed (f g : Forest) : Type 0 where
  pub leaf_bits : (m : ℕ) → f.stands m ≡ true → g.stands m ≡ true → g.leaf_bits m ≡ f.leaf_bits m
  pub allows : (m : ℕ) (r : Ref) → f.stands m ≡ true → g.stands m ≡ true → g.allows m r ≡ f.allows m r
  pub held : (m : ℕ) → g.held m ≡ f.held m
  pub name : (r : Ref) → g.name r ≡ f.name r
  pub epoch : g.epoch ≡ f.epoch
  pub failed : f.failed ≤ g.failed
  pub bad : f.bad ≤ g.bad

-- node m stands where it stood
pub record InPlace (f g : Forest) (m : ℕ) : Type 0 where
  pub stands : g.stands m ≡ true
  pub root : g.root m ≡ f.root m
  pub low : g.low m ≡ f.low m
  pub bits : g.bits m ≡ f.bits m
  pub belongs : (top key : ℕ) → g.belongs m top key ≡ f.belongs m top key
  pub writable : f.writable m ≡ true → g.writable m ≡ true

-- node m stands as before; blocks may have been loaded below it
pub record Stays (f g : Forest) (m : ℕ) : Type 0 where
  pub place : InPlace f g m
  pub alike : Alike (refs f m) (refs g m)
  pub near : (k c : ℕ) → f.link m k ≡ loaded c → g.link m k ≡ loaded c
  pub far : (k : ℕ) (l : List Ref) → f.link m k ≡ told l → Below g m k l

-- node m stands as before, with the same nodes and blocks below it
pub record Keeps (f g : Forest) (m : ℕ) : Type 0 where
  pub place : InPlace f g m
  pub alike : Alike (refs f m) (refs g m)
  pub link : (k : ℕ) → g.link m k ≡ f.link m k

-- a node of another tree, in which references to what changed name other blocks
pub record Renews (f g : Forest) (m : ℕ) : Type 0 where
  pub place : InPlace f g m
  pub renewed : AllRenewed (refs f m) (refs g m)
  pub link : (k : ℕ) → g.link m k ≡ f.link m k

-- nothing of node m has changed
pub record Same (f g : Forest) (m : ℕ) : Type 0 where
  pub place : InPlace f g m
  pub set : g.set m ≡ f.set m
  pub link : (k : ℕ) → g.link m k ≡ f.link m k
  pub writable : g.writable m ≡ f.writable m
  pub copies : g.copies m ≡ f.copies m

-- nothing changed but what is loaded at key k of node at, and no other node was loaded
pub record Loads (f g : Forest) (at k : ℕ) : Type 0 where
  pub keeps : (m : ℕ) → f.stands m ≡ true → (m ≡ at → ⊥) → Keeps f g m
  pub link : (j : ℕ) → (j ≡ k → ⊥) → g.link at j ≡ f.link at j
  pub new : (m : ℕ) → g.stands m ≡ true → (f.stands m ≡ true) ⊎ (g.link at k ≡ loaded m)

-- nothing has changed, but for the two counts and which bad block was met last
pub record Unchanged (f g : Forest) : Type 0 where
  pub sound : IsSound g
  pub fixed : Fixed f g
  pub same : (m : ℕ) → f.stands m ≡ true → Same f g m
  pub none_new : (m : ℕ) → g.stands m ≡ true → f.stands m ≡ true
  pub spare : g.spare ≡ f.spare
  pub room : g.room ≡ f.room

-- nothing but loads took place: indirect blocks have been loaded, and all else but the two counts and which bad block was
-- met last is as before
pub record Walks (f g : Forest) : Type 0 where
  pub sound : IsSound g
  pub fixed : Fixed f g
  pub stays : (m : ℕ) → f.stands m ≡ true → Stays f g m
  -- no root was loaded, only indirect blocks, and what was loaded isn't writable
  pub roots : (m : ℕ) → g.stands m ≡ true → g.root m ≡ m → f.stands m ≡ true
  pub clean : (m : ℕ) → f.stands m ≡ false → g.stands m ≡ true → g.writable m ≡ false
  pub sets : (m : ℕ) → f.stands m ≡ true → g.set m ≡ f.set m
  pub writable : (m : ℕ) → f.stands m ≡ true → g.writable m ≡ f.writable m
  pub copies : (m : ℕ) → f.stands m ≡ true → g.copies m ≡ f.copies m
  pub spare : g.spare ≡ f.spare
  pub room : g.room ≡ f.room

-- reference r of node m leads to node at: it names that node or one above it in its tree, or, in another tree, it is
-- on the way to what the node belongs to
pub data OnWay (f : Forest) (m : ℕ) (r : Ref) (at : ℕ) : Type 0 where
  inside : f.root m ≡ f.root at → is_indirect r ≡ true → holds (f.low at) r ≡ true → f.bits at ≤ r.keybits → OnWay f m r at
  across : (key : ℕ) → (f.root m ≡ f.root at → ⊥) → holds key r ≡ true → f.belongs at (f.root m) key ≡ true → OnWay f m r at

-- node m is node at, or a reference of it leads there
pub data IsAbove (f : Forest) (m at : ℕ) : Type 0 where
  itself : m ≡ at → IsAbove f m at
  by : (i : ℕ) (r : Ref) → slice_get (refs f m) i ≡ Some r → OnWay f m r at → IsAbove f m at

-- Node at and all above it are writable now, the root too, and what is above that. References on the way to it may
-- name other blocks, those to nodes that weren't writable; nothing else has changed.
pub record Alters (f g : Forest) (at : ℕ) : Type 0 where
  pub sound : IsSound g
  pub fixed : Fixed f g
  pub writable : g.writable at ≡ true
  pub top : g.writable (f.root at) ≡ true
  pub made : (m : ℕ) → f.stands m ≡ true → IsAbove f m at → g.writable m ≡ true
  -- none of those from the node up to below the root has to be copied any more
  pub copies : g.copies at ≡ 0
  pub room : g.room + f.copies at ≡ f.room
  -- a reference that doesn't lead to the node is the same
  pub exact : (m i : ℕ) (r : Ref) → f.stands m ≡ true → slice_get (refs f m) i ≡ Some r → (OnWay f m r at → ⊥) → slice_get (refs g m) i ≡ Some r
  -- nor does one change that names a node which was writable
  pub kept : (m i c : ℕ) (r : Ref) → f.stands m ≡ true → slice_get (refs f m) i ≡ Some r → f.link m r.key ≡ loaded c → f.writable c ≡ true → slice_get (refs g m) i ≡ Some r
  -- nor does a leaf that names a root which was writable
  pub kept_leaf : (m i c : ℕ) (r : Ref) → f.stands m ≡ true → slice_get (refs f m) i ≡ Some r → is_indirect r ≡ false → IsRootOf f (f.root m) r.key c → f.writable c ≡ true → slice_get (refs g m) i ≡ Some r
  -- one that changes has the epoch as its id
  pub dated : (m i : ℕ) (r q : Ref) → f.stands m ≡ true → slice_get (refs f m) i ≡ Some r → slice_get (refs g m) i ≡ Some q → (q ≡ r) ⊎ (q.id ≡ f.epoch)
  -- where all was writable already, no set changes
  pub still : ((m : ℕ) → f.stands m ≡ true → IsAbove f m at → f.writable m ≡ true) → (m : ℕ) → f.stands m ≡ true → g.set m ≡ f.set m
  -- what isn't above the node is as writable as before
  pub others : (m : ℕ) → f.stands m ≡ true → (IsAbove f m at → ⊥) → g.writable m ≡ f.writable m
  pub tree : (m : ℕ) → f.stands m ≡ true → f.root m ≡ f.root at → Keeps f g m
  pub above : (m : ℕ) → f.stands m ≡ true → (f.root m ≡ f.root at → ⊥) → Renews f g m
  pub capacity : (m : ℕ) → f.stands m ≡ true → let s = f.set m in let t = g.set m in t.capacity ≡ s.capacity
  pub none_new : (m : ℕ) → g.stands m ≡ true → f.stands m ≡ true
  pub spare : g.spare ≡ f.spare
  pub failed : g.failed ≡ f.failed
  pub bad : g.bad ≡ f.bad
  pub met : g.met ≡ f.met

-- a reference of node at whose range holds the key isn't in s; a leaf in place of an indirect one isn't that one
pub record Loses (f : Forest) (at : ℕ) (s : RefSet) (key : ℕ) : Type 0 where
  pub place : ℕ
  pub lost : Ref
  pub was : slice_get (refs f at) place ≡ Some lost
  pub lacks : (i : ℕ) (r : Ref) → slice_get s.refs i ≡ Some r → r.key ≡ lost.key → is_indirect r ≡ is_indirect lost → ⊥
  pub held : holds key lost ≡ true

-- node m of this tree stands below a reference of node at that s lacks
pub record GoesBelow (f : Forest) (m at : ℕ) (s : RefSet) : Type 0 where
  pub tree : f.root m ≡ f.root at
  pub fewer : f.bits m < f.bits at
  pub loses : Loses f at s (f.low m)

-- node m of another tree belongs to what a leaf names, to which a reference of node at leads that s lacks
pub record GoesWith (f : Forest) (m at : ℕ) (s : RefSet) : Type 0 where
  pub other : f.root m ≡ f.root at → ⊥
  pub key : ℕ
  pub leaf : Ref
  pub loses : Loses f at s key
  pub reaches : Reaches f key at (Some leaf)
  pub exact : leaf.key ≡ key
  pub belongs : f.belongs m (f.root at) key ≡ true

-- a set that node at may be given
pub record Storable (f : Forest) (at : ℕ) (s : RefSet) : Type 0 where
  pub capacity : let t = f.set at in s.capacity ≡ t.capacity
  pub set : IsRefSet s
  pub some : (f.root at ≡ at → ⊥) → 0 < length s.refs
  pub inside : Rising (f.low at) (f.low at + 2 ^ f.bits at) s.refs
  pub fits : (i : ℕ) (r : Ref) → slice_get s.refs i ≡ Some r → Fits f at r
  -- each indirect reference stood there before
  pub stood : (i : ℕ) (r : Ref) → slice_get s.refs i ≡ Some r → is_indirect r ≡ true → (j : ℕ) × (slice_get (refs f at) j ≡ Some r)
  -- what goes isn't held
  pub free : (m : ℕ) → f.stands m ≡ true → GoesWith f m at s → f.held m ≡ false

-- the set of node at is s now; what stands below references that it lacks is gone
pub record Stores (f g : Forest) (at : ℕ) (s : RefSet) : Type 0 where
  pub sound : IsSound g
  pub fixed : Fixed f g
  pub set : g.set at ≡ s
  pub place : InPlace f g at
  pub copies : g.copies at ≡ f.copies at
  pub link : (i : ℕ) (r : Ref) → slice_get s.refs i ≡ Some r → is_indirect r ≡ true → g.link at r.key ≡ f.link at r.key
  pub others : (m : ℕ) → f.stands m ≡ true → (m ≡ at → ⊥) → (GoesBelow f m at s → ⊥) → (GoesWith f m at s → ⊥) → Same f g m
  -- what is below a reference that is lost, and what a lost leaf names, stands no longer
  pub gone : (m : ℕ) → f.stands m ≡ true → GoesBelow f m at s ⊎ GoesWith f m at s → g.stands m ≡ false
  pub none_new : (m : ℕ) → g.stands m ≡ true → f.stands m ≡ true
  pub spare : g.spare ≡ f.spare
  pub room : g.room ≡ f.room
  pub failed : g.failed ≡ f.failed
  pub bad : g.bad ≡ f.bad
  pub met : g.met ≡ f.met

-- why a call was in trouble: for a bad block, the last one that was met is the one that is told
abbrev pub HasCause : Forest → Forest → Trouble → Type 0
HasCause f g Failed = Rose f.failed g.failed
HasCause f g (Bad place why) = Rose f.bad g.bad × (g.met ≡ Some (place, why))
HasCause f g NoMemory = Unit {0}

-- a bad block was met
abbrev pub IsBad : Trouble → Type 0
IsBad Failed = ⊥
IsBad (Bad place why) = Unit {0}
IsBad NoMemory = ⊥

-- no fault of the disk was met: no read failed, and no bad block was met
pub record MeetsNone (f g : Forest) : Type 0 where
  pub failed : g.failed ≡ f.failed
  pub bad : g.bad ≡ f.bad
  pub met : g.met ≡ f.met

-- of the faults of the disk just the one was met that is told, and that once
abbrev pub MeetsOnly : Forest → Forest → Trouble → Type 0
MeetsOnly f g Failed = (g.failed ≡ one_more f.failed) × (g.bad ≡ f.bad) × (g.met ≡ f.met)
MeetsOnly f g (Bad place why) = (g.failed ≡ f.failed) × (g.bad ≡ one_more f.bad)
MeetsOnly f g NoMemory = MeetsNone f g

-- the reference at place i leads further down
pub record IsIndirectAt (rs : List Ref) (i : ℕ) : Type 0 where
  pub within : i < length rs
  pub indirect : (r : Ref) → slice_get rs i ≡ Some r → is_indirect r ≡ true

-- nothing has changed but spare
pub record ReadiesOnly (f g : Forest) : Type 0 where
  pub sound : IsSound g
  pub fixed : Fixed f g
  pub same : (m : ℕ) → f.stands m ≡ true → Same f g m
  pub none_new : (m : ℕ) → g.stands m ≡ true → f.stands m ≡ true
  pub spare : f.spare ≤ g.spare
  pub room : g.room ≡ f.room
  pub failed : g.failed ≡ f.failed
  pub bad : g.bad ≡ f.bad
  pub met : g.met ≡ f.met

-- set and s are what the full set of node at, with leaf r added, was split into
pub record MadeFrom (f : Forest) (at : ℕ) (r : Ref) (set : RefSet) (s : Split) : Type 0 where
  pub apart : IsApart r (refs f at)
  pub fits : Fits f at r
  pub leaf : is_indirect r ≡ false
  pub low : f.low at ≤ r.key
  pub high : limit r ≤ f.low at + 2 ^ f.bits at
  pub full : let t = f.set at in length t.refs ≡ t.capacity
  pub split : IsSplitOf (put r (refs f at)) s.key s.keybits
  pub moved : s.moved ≡ record { refs = filter (lies s.key s.keybits) (put r (refs f at)); capacity = 32 }
  pub kept : with_rest s.rest set.refs ≡ filter (λ q. not (lies s.key s.keybits q)) (put r (refs f at))
  pub capacity : let t = f.set at in set.capacity ≡ t.capacity

-- what making leaves: node c has the moved references, and node at one that leads there
pub record Makes (f g : Forest) (at c : ℕ) (set : RefSet) (s : Split) : Type 0 where
  pub sound : IsSound g
  pub fixed : Fixed f g
  pub fresh : f.stands c ≡ false
  pub child : g.link at s.key ≡ loaded c
  pub moved : g.set c ≡ s.moved
  pub new_writable : g.writable c ≡ true
  pub ref : Ref
  pub indirect : is_indirect ref ≡ true
  pub key : ref.key ≡ s.key
  pub keybits : ref.keybits ≡ s.keybits
  pub dated : ref.id ≡ f.epoch
  pub now : g.set at ≡ record { refs = put ref (with_rest s.rest set.refs); capacity = set.capacity }
  pub place : InPlace f g at
  -- what was below a key of the range is below the new node, and all else below the old one
  pub below_moved : (k : ℕ) → s.key ≤ k → k < s.key + 2 ^ s.keybits → g.link c k ≡ f.link at k
  pub below_kept : (k : ℕ) → (k < s.key) ⊎ (s.key + 2 ^ s.keybits ≤ k) → g.link at k ≡ f.link at k
  pub copies : g.copies at ≡ f.copies at
  pub others : (m : ℕ) → f.stands m ≡ true → (m ≡ at → ⊥) → Same f g m
  pub none_new : (m : ℕ) → g.stands m ≡ true → (m ≡ c) ⊎ (f.stands m ≡ true)
  pub spare : g.spare + 1 ≡ f.spare
  pub room : g.room + 1 ≡ f.room
  pub failed : g.failed ≡ f.failed
  pub bad : g.bad ≡ f.bad
  pub met : g.met ≡ f.met

-- what a root keeps beside its set stays, where the root stands before and after
pub record KeepsBeside {B : Type 0} (f g : Forest) (old new : ℕ → B) : Type 0 where
  pub same : (m : ℕ) → f.stands m ≡ true → g.stands m ≡ true → new m ≡ old m
