-- What inserting and removing a leaf do to a forest.
use Rattle.std.specs.List.{remove}
use Rattle.std.specs.Prelude.{slice_set, filter, not, ◌≡◌, ℕ, ◌+◌, ◌^◌, ◌<◌, ◌≤◌, ◌⊎◌, ◌&&◌, nat_le, nat_lt, Bool, true, false, List, Option, Some, None, slice_get, length}
use Rattle.h2_ref.specs.declared.reference.Ref.{Ref}
use Rattle.h2_set.specs.Ranges.{Rising, limit, holds, lies, NoneHolds, IsApart, Sides, put, without, at_key, is_indirect, IsAligned}
use Rattle.h2_tree.specs.declared.removing.Taken.{Taken}
use Rattle.h2_tree.specs.declared.removing.Taken.TheVariants.{Nothing, Out, Sole}
use Rattle.h2_set.specs.Forest.{Forest, refs, loaded, IsSound, LeavesOf, Reaches, IsRootOf}
use Rattle.h2_set.specs.Calls.{Walks, Fixed, InPlace, Keeps, Renews, Stays, OnWay, IsAbove}
use Rattle.h2_set.specs.RefSet.{IsSplitOf}

-- the range of m lies in that of node at
pub record Under (f : Forest) (m at : ℕ) : Type 0 where
  pub low : f.low at ≤ f.low m
  pub high : f.low m + 2 ^ f.bits m ≤ f.low at + 2 ^ f.bits at

-- a leaf that the tree below node at may have
pub record Takes (f : Forest) (at : ℕ) (leaf : Ref) : Type 0 where
  pub is_leaf : is_indirect leaf ≡ false
  pub allowed : f.allows (f.root at) leaf ≡ true
  pub aligned : IsAligned leaf
  -- its key is below 2^62 or at least 2^63, as all keys of a tree are
  pub class : (leaf.key < 2 ^ 62) ⊎ (2 ^ 63 ≤ leaf.key)
  pub keybits : leaf.keybits ≡ f.leaf_bits (f.root at)
  pub low : f.low at ≤ leaf.key
  pub high : limit leaf ≤ f.low at + 2 ^ f.bits at

-- a walk down from node at to node n, by loaded nodes and references that hold the key
pub data Descends (f : Forest) (key : ℕ) : ℕ → ℕ → Type 0 where
  arrived : {at : ℕ} → Descends f key at at
  onward : {at c n : ℕ} {r : Ref} → (i : ℕ) → slice_get (refs f at) i ≡ Some r → holds key r ≡ true → is_indirect r ≡ true → f.link at r.key ≡ loaded c → Descends f key c n → Descends f key at n

-- what a change of the set of node n leaves of all others, but of those that go
pub record ChangesOnly (h g : Forest) (n : ℕ) (goes : ℕ → Type 0) : Type 0 where
  -- no node is unloaded
  pub still : (m : ℕ) → h.stands m ≡ true → (goes m → ⊥) → InPlace h g m
  -- nodes of its tree keep their references, but for where blocks of indirect ones lie, and what is loaded below them
  pub tree : (m : ℕ) → h.stands m ≡ true → h.root m ≡ h.root n → (m ≡ n → ⊥) → (goes m → ⊥) → Keeps h g m
  -- and those of other trees, but for where blocks of inodes and indirect ones lie
  pub others : (m : ℕ) → h.stands m ≡ true → (h.root m ≡ h.root n → ⊥) → (goes m → ⊥) → Renews h g m
  -- no reference changes but on the way to the node
  pub exact : (m i : ℕ) (r : Ref) → h.stands m ≡ true → (m ≡ n → ⊥) → (goes m → ⊥) → slice_get (refs h m) i ≡ Some r → (OnWay h m r n → ⊥) → slice_get (refs g m) i ≡ Some r
  -- nor does one to a node that was writable
  pub kept : (m i c : ℕ) (r : Ref) → h.stands m ≡ true → (m ≡ n → ⊥) → (goes m → ⊥) → slice_get (refs h m) i ≡ Some r → h.link m r.key ≡ loaded c → h.writable c ≡ true → slice_get (refs g m) i ≡ Some r
  -- nor does a leaf that names a root which was writable
  pub kept_leaf : (m i c : ℕ) (r : Ref) → h.stands m ≡ true → (m ≡ n → ⊥) → (goes m → ⊥) → slice_get (refs h m) i ≡ Some r → is_indirect r ≡ false → IsRootOf h (h.root m) r.key c → h.writable c ≡ true → slice_get (refs g m) i ≡ Some r
  -- one that changes has the epoch as its id
  pub dated : (m i : ℕ) (r q : Ref) → h.stands m ≡ true → (m ≡ n → ⊥) → (goes m → ⊥) → slice_get (refs h m) i ≡ Some r → slice_get (refs g m) i ≡ Some q → (q ≡ r) ⊎ (q.id ≡ h.epoch)
  pub writable : (m : ℕ) → h.stands m ≡ true → (goes m → ⊥) → (IsAbove h m n → ⊥) → g.writable m ≡ h.writable m
  pub made : (m : ℕ) → h.stands m ≡ true → (goes m → ⊥) → IsAbove h m n → g.writable m ≡ true
  pub top : (goes (h.root n) → ⊥) → h.stands (h.root n) ≡ true → g.writable (h.root n) ≡ true

-- the set of node n has the leaf in place of the one at place i, with its range
pub record Replaces (h g : Forest) (n : ℕ) (leaf old : Ref) : Type 0 where
  pub place : ℕ
  pub was : slice_get (refs h n) place ≡ Some old
  pub leaf_was : is_indirect old ≡ false
  pub key : old.key ≡ leaf.key
  pub keybits : old.keybits ≡ leaf.keybits
  pub set : let s = h.set n in g.set n ≡ record { refs = slice_set s.refs place leaf; capacity = s.capacity }
  pub none_new : (m : ℕ) → g.stands m ≡ true → h.stands m ≡ true
  pub link : (i : ℕ) (r : Ref) → slice_get (refs g n) i ≡ Some r → is_indirect r ≡ true → g.link n r.key ≡ h.link n r.key

-- the set of node n, which wasn't full, has the leaf in its order
pub record Places (h g : Forest) (n : ℕ) (leaf : Ref) : Type 0 where
  pub none : NoneHolds leaf.key (refs h n)
  pub apart : IsApart leaf (refs h n)
  pub space : let s = h.set n in length s.refs < s.capacity
  pub set : let s = h.set n in g.set n ≡ record { refs = put leaf s.refs; capacity = s.capacity }
  pub none_new : (m : ℕ) → g.stands m ≡ true → h.stands m ≡ true
  pub link : (i : ℕ) (r : Ref) → slice_get (refs g n) i ≡ Some r → is_indirect r ≡ true → g.link n r.key ≡ h.link n r.key

-- the full set of node n and the leaf were split by the split rule: node c has the references of its range, and node
-- n the others, and one that leads to node c
pub record Parts (h g : Forest) (n : ℕ) (leaf : Ref) : Type 0 where
  pub none : NoneHolds leaf.key (refs h n)
  pub apart : IsApart leaf (refs h n)
  pub full : let s = h.set n in length s.refs ≡ s.capacity
  pub key : ℕ
  pub bits : ℕ
  pub split : IsSplitOf (put leaf (refs h n)) key bits
  pub node : ℕ
  pub fresh : h.stands node ≡ false
  pub moved : g.set node ≡ record { refs = filter (lies key bits) (put leaf (refs h n)); capacity = 32 }
  pub new_writable : g.writable node ≡ true
  pub none_new : (m : ℕ) → g.stands m ≡ true → (m ≡ node) ⊎ (h.stands m ≡ true)
  pub ref : Ref
  pub indirect : is_indirect ref ≡ true
  pub ref_key : ref.key ≡ key
  pub ref_bits : ref.keybits ≡ bits
  -- it was made in this epoch
  pub dated : ref.id ≡ h.epoch
  pub link : g.link n key ≡ loaded node
  -- what was loaded below the moved references is so below the new node
  pub sides : (i : ℕ) (r : Ref) → slice_get (put leaf (refs h n)) i ≡ Some r → Sides key bits r
  pub below_moved : (k : ℕ) → key ≤ k → k < key + 2 ^ bits → g.link node k ≡ h.link n k
  pub below_kept : (k : ℕ) → (k < key) ⊎ (key + 2 ^ bits ≤ k) → g.link n k ≡ h.link n k
  pub set : let s = h.set n in g.set n ≡ record { refs = put ref (filter (λ q. not (lies key bits q)) (put leaf s.refs)); capacity = s.capacity }

-- how the set of node n takes a leaf in: the number of new blocks, and the leaf that it replaces
pub data TakesIn (h g : Forest) (n : ℕ) (leaf : Ref) : ℕ → Option Ref → Type 0 where
  replaced : {old : Ref} → Replaces h g n leaf old → TakesIn h g n leaf 0 (Some old)
  placed : Places h g n leaf → TakesIn h g n leaf 0 None
  parted : Parts h g n leaf → TakesIn h g n leaf 1 None

-- nothing but loads took place, and spare nodes were made ready
pub record Prepares (f g : Forest) : Type 0 where
  pub sound : IsSound g
  pub fixed : Fixed f g
  pub stays : (m : ℕ) → f.stands m ≡ true → Stays f g m
  pub sets : (m : ℕ) → f.stands m ≡ true → g.set m ≡ f.set m
  pub writable : (m : ℕ) → f.stands m ≡ true → g.writable m ≡ f.writable m
  -- what was loaded isn't writable
  pub clean : (m : ℕ) → f.stands m ≡ false → g.stands m ≡ true → g.writable m ≡ false
  pub copies : (m : ℕ) → f.stands m ≡ true → g.copies m ≡ f.copies m
  pub spare : f.spare ≤ g.spare
  pub room : g.room ≡ f.room

-- each node that was loaded has a key from `from` to `to` in its range
pub record LoadsTouched (f g : Forest) (from to : ℕ) : Type 0 where
  pub only : (m : ℕ) → g.stands m ≡ true → (f.stands m ≡ true) ⊎ ((g.low m ≤ to) × (from < g.low m + 2 ^ g.bits m))

-- each node that was loaded has such a key, and stands in the tree of node at; where no key is from `from` to `to`, none
-- was loaded
pub record LoadsIn (f g : Forest) (at from to : ℕ) : Type 0 where
  pub touched : LoadsTouched f g from to
  pub tree : (m : ℕ) → f.stands m ≡ false → g.stands m ≡ true → g.root m ≡ f.root at
  pub some : (m : ℕ) → f.stands m ≡ false → g.stands m ≡ true → from ≤ to

-- Where the leaf went in: once the path of its key was loaded, into the set of one node on it. The room is lowered by
-- the nodes that are copied for it and the new block, and spare by the new block alone.
pub record GoesIn (f g : Forest) (at : ℕ) (leaf : Ref) (old : Option Ref) : Type 0 where
  pub then : Forest
  pub prepares : Prepares f then
  -- no node off the path of its key was loaded
  pub touched : LoadsIn f then at leaf.key leaf.key
  pub node : ℕ
  pub stands : then.stands node ≡ true
  pub way : Descends then leaf.key at node
  pub blocks : ℕ
  pub change : TakesIn then g node leaf blocks old
  pub only : ChangesOnly then g node (λ m. ⊥)
  pub room : g.room + then.copies node + blocks ≡ f.room
  pub spare : g.spare + blocks ≡ then.spare
  -- where a node was spare, no other was made ready
  pub grown : 1 ≤ f.spare → then.spare ≡ f.spare

-- no indirect block is left empty
abbrev pub NoneEmpty : Forest → Type 0
NoneEmpty g = (m : ℕ) → g.stands m ≡ true → (g.root m ≡ m → ⊥) → 0 < length (refs g m)

-- the leaf is in the list of node at, in place of the one with its range, and other nodes keep theirs
pub record Inserts (f g : Forest) (at : ℕ) (leaf : Ref) (old : Option Ref) : Type 0 where
  pub sound : IsSound g
  pub fixed : Fixed f g
  pub place : InPlace f g at
  pub leaves : (l : List Ref) → LeavesOf f at l → LeavesOf g at (put leaf l)
  pub goes : GoesIn f g at leaf old
  pub filled : NoneEmpty g
  pub tree : (m : ℕ) → f.stands m ≡ true → f.root m ≡ f.root at → (Under f m at → ⊥) → Keeps f g m
  pub above : (m : ℕ) → f.stands m ≡ true → (f.root m ≡ f.root at → ⊥) → Renews f g m
  -- no node is unloaded
  pub still : (m : ℕ) → f.stands m ≡ true → InPlace f g m
  pub room : f.room ≤ g.room + 63
  pub room_falls : g.room ≤ f.room
  pub spare : f.spare ≤ g.spare + 1

-- nothing but loads took place, and none below nodes that aren't under node at
pub record WalksUnder (f g : Forest) (at : ℕ) : Type 0 where
  pub walks : Walks f g
  pub keeps : (m : ℕ) → f.stands m ≡ true → (f.root m ≡ f.root at → Under f m at → ⊥) → Keeps f g m

-- the reference at place i of node at leads to this leaf alone, by loaded nodes
pub data LeadsOnly (f : Forest) : ℕ → ℕ → Ref → Type 0 where
  itself : {at : ℕ} {r : Ref} → (i : ℕ) → slice_get (refs f at) i ≡ Some r → is_indirect r ≡ false → LeadsOnly f at i r
  down : {at c : ℕ} {r leaf : Ref} → (i : ℕ) → slice_get (refs f at) i ≡ Some r → is_indirect r ≡ true → f.link at r.key ≡ loaded c → length (refs f c) ≡ 1 → LeadsOnly f c 0 leaf → LeadsOnly f at i leaf

-- nothing that belongs to what the key's leaf names is held
abbrev pub IsFree : Forest → ℕ → ℕ → Type 0
IsFree f top key = (m : ℕ) → f.stands m ≡ true → f.belongs m top key ≡ true → f.held m ≡ false

-- node m goes when the reference at this place of node n is cut, which leads to this leaf alone: it stands below the
-- reference, or belongs to what the leaf names
pub data GoesAway (h : Forest) (n place : ℕ) (leaf : Ref) (m : ℕ) : Type 0 where
  below_it : (r : Ref) → slice_get (refs h n) place ≡ Some r → h.root m ≡ h.root n → h.bits m < h.bits n → holds (h.low m) r ≡ true → GoesAway h n place leaf m
  named : (h.root m ≡ h.root n → ⊥) → h.belongs m (h.root n) leaf.key ≡ true → GoesAway h n place leaf m

-- Where the leaf went out: once the path of its key was loaded, one reference of one node was cut that led to it alone.
-- Nothing goes but what is below that reference and what the leaf names. The room is lowered by the nodes that are
-- copied for it.
pub record GoesOut (f g : Forest) (at : ℕ) (leaf : Ref) : Type 0 where
  pub then : Forest
  pub walks : Walks f then
  pub touched : LoadsIn f then at leaf.key leaf.key
  pub node : ℕ
  pub stands : then.stands node ≡ true
  pub way : Descends then leaf.key at node
  pub place : ℕ
  pub only_leaf : LeadsOnly then node place leaf
  -- a block that would be left empty isn't cut: the reference to it is
  pub more : (then.root node ≡ node) ⊎ (2 ≤ length (refs then node))
  pub set : let s = then.set node in g.set node ≡ record { refs = remove s.refs place; capacity = s.capacity }
  pub link : (i : ℕ) (r : Ref) → slice_get (refs g node) i ≡ Some r → is_indirect r ≡ true → g.link node r.key ≡ then.link node r.key
  pub only : ChangesOnly then g node (GoesAway then node place leaf)
  pub gone : (m : ℕ) → then.stands m ≡ true → GoesAway then node place leaf m → g.stands m ≡ false
  pub none_new : (m : ℕ) → g.stands m ≡ true → then.stands m ≡ true
  pub room : g.room + then.copies node ≡ f.room
  pub spare : g.spare ≡ f.spare

-- the leaf is out of the list of node at, and other nodes keep theirs, but those that belong to what it names
pub record Removes (f g : Forest) (at : ℕ) (leaf : Ref) : Type 0 where
  pub sound : IsSound g
  pub fixed : Fixed f g
  pub place : InPlace f g at
  pub leaves : (l : List Ref) → LeavesOf f at l → LeavesOf g at (without leaf.key l)
  pub goes : GoesOut f g at leaf
  pub filled : NoneEmpty g
  pub tree : (m : ℕ) → f.stands m ≡ true → f.root m ≡ f.root at → (Under f m at → ⊥) → Keeps f g m
  pub above : (m : ℕ) → f.stands m ≡ true → (f.root m ≡ f.root at → ⊥) → (f.belongs m (f.root at) leaf.key ≡ true → ⊥) → Renews f g m
  pub room : f.room ≤ g.room + 62
  pub room_falls : g.room ≤ f.room
  pub spare : g.spare ≡ f.spare

-- the loaded path of the key leads to no leaf of this key
pub record LacksLeaf (f : Forest) (at key : ℕ) : Type 0 where
  pub found : Option Ref
  pub path : Reaches f key at found
  pub other : (r : Ref) → found ≡ Some r → r.key ≡ key → ⊥

-- what taking out the leaf with the key did at node at: there is none, or it is out, or the node has no other
abbrev pub TakesOut : Forest → Forest → ℕ → ℕ → Taken → Type 0
TakesOut f g at key Nothing = WalksUnder f g at × ((l : List Ref) → LeavesOf f at l → at_key key l ≡ None) × LoadsIn f g at key key × LacksLeaf g at key
TakesOut f g at key (Out leaf) = Removes f g at leaf × (leaf.key ≡ key) × ((l : List Ref) → LeavesOf f at l → at_key key l ≡ Some leaf)
TakesOut f g at key (Sole leaf) = WalksUnder f g at × (length (refs g at) ≡ 1) × LeadsOnly g at 0 leaf × (leaf.key ≡ key) × LoadsIn f g at key key

-- each loaded path to a key outside the leaf's range stays loaded, and leads to what it led to
abbrev pub KeepsPaths : Forest → Forest → ℕ → Ref → Type 0
KeepsPaths f g at leaf = (key : ℕ) (o : Option Ref) → holds key leaf ≡ false → Reaches f key at o → Reaches g key at o

-- a leaf whose key is from `from` to `to`
abbrev pub is_between : ℕ → ℕ → Ref → Bool
is_between from to r = nat_le from r.key && nat_le r.key to

-- the range of a reference has a key from `from` to `to`; none has where `from` is above `to`
abbrev pub touches : ℕ → ℕ → Ref → Bool
touches from to r = nat_le from to && (nat_le r.key to && nat_lt from (limit r))

-- a node below node at whose range has a key from `from` to `to` isn't loaded
pub data RangeUnloaded (f : Forest) (from to : ℕ) : ℕ → Type 0 where
  missing : {at : ℕ} {r : Ref} → (i : ℕ) → slice_get (refs f at) i ≡ Some r → is_indirect r ≡ true → touches from to r ≡ true → ((c : ℕ) → f.link at r.key ≡ loaded c → ⊥) → RangeUnloaded f from to at
  deeper : {at c : ℕ} {r : Ref} → (i : ℕ) → slice_get (refs f at) i ≡ Some r → is_indirect r ≡ true → touches from to r ≡ true → f.link at r.key ≡ loaded c → RangeUnloaded f from to c → RangeUnloaded f from to at

-- no loaded path leads to what the key has
abbrev pub PathUnloaded : Forest → ℕ → ℕ → Type 0
PathUnloaded f at key = (o : Option Ref) → Reaches f key at o → ⊥

-- the loaded leaves of node at with keys from `from` to `to` are l, in order, and no node that they need is unloaded
pub record Lists (f : Forest) (at from to : ℕ) (l : List Ref) : Type 0 where
  pub rising : Rising 0 (2 ^ 64) l
  pub each : (i : ℕ) (r : Ref) → slice_get l i ≡ Some r → (is_between from to r ≡ true) × Reaches f r.key at (Some r)
  pub all : (key : ℕ) (r : Ref) → Reaches f key at (Some r) → is_between from to r ≡ true → (i : ℕ) × (slice_get l i ≡ Some r)
  pub loaded : RangeUnloaded f from to at → ⊥
