-- The forest that a vector of nodes is.
use Rattle.std.specs.Prelude.{◌≡◌, ℕ, ◌≤◌, ◌<◌, ◌⊎◌, not, Bool, true, false, ◌&&◌, ◌==◌, if◌then◌else◌, List, [], ◌∷◌, ◌++◌, length, Option, Some, None, slice_get, slice_set, map, count_by, nat_lt, nat_le, suc, ◌||◌, ◌^◌, ◌+◌}
use Rattle.std.specs.List.{position}
use Rattle.h2_ref.specs.declared.faults.Why.{Why}
use Rattle.h2_ref.specs.declared.reference.Kind.TheVariants.{Empty, Indirect}
use Rattle.h2_ref.specs.declared.reference.Check.TheVariants.{Nothing}
use Rattle.h2_ref.specs.declared.reference.Ref.{Ref}
use Rattle.h2_set.specs.Ranges.{limit, holds, is_indirect, IsAligned}
use Rattle.h2_set.specs.RefSet.{RefSet, IsRefSet}
use Rattle.h2_set.specs.SetBytes.{IsHeld}
use Rattle.h2_set.specs.Forest.{Link, loaded, untold, Forest}
use Rattle.h2_inode.specs.declared.inode.Inode.{Inode}
use Rattle.h2_memory_sets.specs.declared.node.Node.{Node}
use Rattle.h2_memory_sets.specs.declared.node.Place.{Place}
use Rattle.h2_memory_sets.specs.declared.node.KeyClass.{KeyClass}
use Rattle.h2_memory_sets.specs.declared.node.KeyClass.TheVariants.{Low, High}
use Rattle.h2_memory_sets.specs.declared.node.Leaves.{Leaves}
use Rattle.h2_memory_sets.specs.declared.node.Leaves.TheVariants.{Any}
use Rattle.h2_memory_sets.specs.declared.node.Owner.{Owner}
use Rattle.h2_memory_sets.specs.Owners.{on_chain, belongs_to, refit, allows_of, held_of}

-- whether a node is loaded and stands
abbrev pub stands_of : Option Node → Bool
stands_of None = false
stands_of (Some x) = x.loaded

-- the set of a node
abbrev pub set_of : Option Node → RefSet
set_of None = record { refs = []; capacity = 4 }
set_of (Some x) = x.set

-- the root of its tree
abbrev pub root_of : Option Node → ℕ
root_of None = 0
root_of (Some x) = x.root

-- where its range begins
abbrev pub low_of : Option Node → ℕ
low_of None = 0
low_of (Some x) = x.low

-- how long its range is, as a power of 2
abbrev pub bits_of : Option Node → ℕ
bits_of None = 0
bits_of (Some x) = x.bits

-- whether it is writable
abbrev pub writable_of : Option Node → Bool
writable_of None = false
writable_of (Some x) = x.dirty

-- how many nodes would be copied to make it writable
abbrev pub copies_of : Option Node → ℕ
copies_of None = 0
copies_of (Some x) = x.copies

-- the keybits of its tree's leaves
abbrev pub leaf_bits_of : Option Node → ℕ
leaf_bits_of None = 0
leaf_bits_of (Some x) = x.leaf_bits

-- whether the node above is m
abbrev pub is_up : ℕ → Option ℕ → Bool
is_up m None = false
is_up m (Some u) = u == m

-- whether a node is loaded and right below node m
abbrev pub is_below : ℕ → Node → Bool
is_below m x = x.loaded && is_up m x.up

-- whether a node is loaded, right below node m and at key k
abbrev pub is_child : ℕ → ℕ → Node → Bool
is_child m k x = x.loaded && (is_up m x.up && x.low == k)

-- the same of a node that may not be there
abbrev pub is_child_of : ℕ → ℕ → Option Node → Bool
is_child_of m k None = false
is_child_of m k (Some x) = is_child m k x

-- whether a node isn't loaded, right below node m and at key k
abbrev pub is_away : ℕ → ℕ → Node → Bool
is_away m k x = not x.loaded && (is_up m x.up && x.low == k)

-- whether an indirect reference has the key
abbrev pub names : List Ref → ℕ → Bool
names [] k = false
names (r ∷ rs) k = if is_indirect r && r.key == k then true else names rs k

-- the link to a node, where one is loaded
abbrev pub link_to : Option ℕ → Link
link_to None = untold
link_to (Some c) = loaded c

-- what is below node m at key k
abbrev pub link_of : List Node → ℕ → ℕ → Link
link_of xs m k = let s = set_of (slice_get xs m) in if names s.refs k then link_to (position (is_child m k) xs) else untold

-- the forest of these nodes, with these numbers
abbrev pub forest_with : List Node → ℕ → ℕ → ℕ → ℕ → ℕ → Option (ℕ × Why) → Forest
forest_with xs spare epoch room failed bad met = record {
  stands = λ m. stands_of (slice_get xs m);
  set = λ m. set_of (slice_get xs m);
  link = λ m k. link_of xs m k;
  root = λ m. root_of (slice_get xs m);
  low = λ m. low_of (slice_get xs m);
  bits = λ m. bits_of (slice_get xs m);
  leaf_bits = λ m. leaf_bits_of (slice_get xs m);
  allows = λ m r. allows_of (slice_get xs m) r;
  belongs = λ m top k. belongs_to xs (root_of (slice_get xs m)) top k;
  held = λ m. held_of (slice_get xs m);
  copies = λ m. copies_of (slice_get xs m);
  writable = λ m. writable_of (slice_get xs m);
  name = λ r. None;
  epoch = epoch;
  spare = spare;
  room = room;
  failed = failed;
  bad = bad;
  met = met;
}

-- what is above a node at key low, once node c has what lay in the range of r below node at
abbrev pub moved_up : ℕ → ℕ → Ref → ℕ → Option ℕ → Option ℕ
moved_up at c r low None = None
moved_up at c r low (Some u) = if u == c then None else (if u == at then (if holds low r then Some c else Some u) else Some u)

-- a node, once node c has what lay in the range of r below node at
abbrev pub moved : ℕ → ℕ → Ref → Node → Node
moved at c r x = record { set = x.set; loaded = x.loaded; up = moved_up at c r x.low x.up; root = x.root; low = x.low; bits = x.bits; dirty = x.dirty; copies = x.copies; leaf_bits = x.leaf_bits; inode = x.inode; owner = x.owner; held = x.held; leaves = x.leaves }

-- all nodes, once node c has what lay in the range of r below node at
abbrev pub moved_all : ℕ → ℕ → Ref → List Node → List Node
moved_all at c r xs = map (moved at c r) xs

-- a node with another set
abbrev pub with_set : Node → RefSet → Node
with_set x s = record { set = s; loaded = x.loaded; up = x.up; root = x.root; low = x.low; bits = x.bits; dirty = x.dirty; copies = x.copies; leaf_bits = x.leaf_bits; inode = refit x.inode s; owner = x.owner; held = x.held; leaves = x.leaves }

-- a new node right below node at, to which r leads
abbrev pub new_node : ℕ → Node → RefSet → Ref → Node
new_node at x part r = record { set = part; loaded = true; up = Some at; root = x.root; low = r.key; bits = r.keybits; dirty = true; copies = x.copies; leaf_bits = 0; inode = None; owner = None; held = false; leaves = Any }

-- nodes of which x, at place at, has the set kept, and a new one the set part with what lay in the range of r
abbrev pub parted : List Node → ℕ → Node → RefSet → RefSet → Ref → List Node
parted xs at x kept part r = moved_all at (length xs) r (slice_set xs at (with_set x kept)) ++ new_node at x part r ∷ []

-- a reference that may stand in the node that top names, in the tree of this root; on no disk does a set have an
-- empty one
pub record FitsBelow (top : Ref) (root : Option Node) (r : Ref) : Type 0 where
  pub named : r.kind ≡ Empty → ⊥
  pub held : is_indirect r ≡ true → IsHeld r
  pub low : top.key ≤ r.key
  pub high : limit r ≤ limit top
  pub aligned : IsAligned r
  pub class : (r.key < 2 ^ 62) ⊎ (2 ^ 63 ≤ r.key)
  pub fewer : r.keybits < top.keybits
  pub leaf : is_indirect r ≡ false → r.keybits ≡ leaf_bits_of root
  pub allowed : is_indirect r ≡ false → allows_of root r ≡ true
  pub wide : is_indirect r ≡ true → leaf_bits_of root ≤ r.keybits
  pub some_bits : is_indirect r ≡ true → 0 < r.keybits

-- a reference with the range of a node
abbrev pub range_of : Node → Ref
range_of x = record { kind = Indirect; key = x.low; keybits = x.bits; place = 0; radix = 0; id = 0; check = Nothing; dirent = None }

-- a set that may be that of the node that top names, in the tree of this root
pub record AllFitBelow (top : Ref) (root : Option Node) (s : RefSet) : Type 0 where
  pub set : IsRefSet s
  pub capacity : s.capacity ≡ 32
  pub some : 0 < length s.refs
  pub each : (i : ℕ) (r : Ref) → slice_get s.refs i ≡ Some r → FitsBelow top root r

-- node c isn't loaded, a reference r in the set of node at leads to it, it may be a node of its tree, and nothing
-- below it is loaded
pub record IsLoadable (xs : List Node) (at : ℕ) (r : Ref) (c : ℕ) : Type 0 where
  pub node : Node
  pub read : slice_get xs c ≡ Some node
  pub away : is_away at r.key node ≡ true
  pub fits : AllFitBelow r (slice_get xs (root_of (slice_get xs at))) node.set
  pub bare : position (is_below c) xs ≡ None

-- a node that was loaded, below one with this root and so many copies, and by a reference with these keybits
abbrev pub brought : ℕ → ℕ → ℕ → Node → Node
brought root copies bits x = record { set = x.set; loaded = true; up = x.up; root = root; low = x.low; bits = bits; dirty = false; copies = copies + 1; leaf_bits = x.leaf_bits; inode = x.inode; owner = x.owner; held = false; leaves = x.leaves }

-- the first key of a tree's range, which is one half of all keys
abbrev pub first_key : KeyClass → ℕ
first_key Low = 0
first_key High = 2 ^ 63

-- the root of a tree, at this place of the vector
abbrev pub top_node : ℕ → KeyClass → ℕ → Leaves → Node
top_node n keys leaf_bits leaves = record { set = record { refs = []; capacity = 4 }; loaded = true; up = None; root = n; low = first_key keys; bits = 63; dirty = true; copies = 0; leaf_bits = leaf_bits; inode = None; owner = None; held = false; leaves = leaves }

-- whether nothing is above
abbrev pub is_bare : Option ℕ → Bool
is_bare None = true
is_bare (Some u) = false

-- whether a node is loaded, and nothing is above it
abbrev pub is_top : Option Node → Bool
is_top None = false
is_top (Some x) = x.loaded && is_bare x.up

-- the root of each loaded node is loaded, and nothing is above it
abbrev pub AllRooted : List Node → Type 0
AllRooted xs = (i : ℕ) → stands_of (slice_get xs i) ≡ true → is_top (slice_get xs (root_of (slice_get xs i))) ≡ true

-- whether a node stays loaded where all below roots are unloaded whose range starts at a key or after
abbrev pub stays_loaded : ℕ → Node → Bool
stays_loaded from x = x.loaded && (is_bare x.up || nat_lt x.low from)

-- a node, once all below roots are unloaded whose range starts at a key or above it
abbrev pub unloaded : ℕ → Node → Node
unloaded from x = record { set = x.set; loaded = stays_loaded from x; up = x.up; root = x.root; low = x.low; bits = x.bits; dirty = x.dirty; copies = x.copies; leaf_bits = x.leaf_bits; inode = x.inode; owner = x.owner; held = x.held; leaves = x.leaves }

-- all nodes, once these are unloaded
abbrev pub unloaded_all : ℕ → List Node → List Node
unloaded_all from xs = map (unloaded from) xs

-- whether x is the node at a place, or above it in its tree
abbrev pub is_above : Place → Node → Bool
is_above at x = x.root == at.root && (nat_le at.bits x.bits && (nat_le x.low at.low && nat_lt at.low (x.low + 2 ^ x.bits)))

-- the place of a node: its tree and its range
abbrev pub place_of : Node → Place
place_of x = record { root = x.root; low = x.low; bits = x.bits }

-- a node that is writable or not
abbrev pub with_dirty : Bool → Node → Node
with_dirty dirty x = record { set = x.set; loaded = x.loaded; up = x.up; root = x.root; low = x.low; bits = x.bits; dirty = dirty; copies = x.copies; leaf_bits = x.leaf_bits; inode = x.inode; owner = x.owner; held = x.held; leaves = x.leaves }

-- a node with another count of copies
abbrev pub with_copies : ℕ → Node → Node
with_copies n x = record { set = x.set; loaded = x.loaded; up = x.up; root = x.root; low = x.low; bits = x.bits; dirty = x.dirty; copies = n; leaf_bits = x.leaf_bits; inode = x.inode; owner = x.owner; held = x.held; leaves = x.leaves }

-- whether one of the references passes
abbrev pub any_of : (Ref → Bool) → List Ref → Bool
any_of p [] = false
any_of p (r ∷ rs) = if p r then true else any_of p rs

-- whether a reference of node x leads to the leaf
abbrev pub leads : Node → Owner → Bool
leads x o = let s = x.set in x.root == o.root && any_of (holds o.key) s.refs

-- whether a reference of node x leads to what the root belongs to
abbrev pub is_over : List Node → ℕ → Node → Bool
is_over xs root x = on_chain (leads x) xs (suc root) root

-- nodes of which the one at a place is writable, and all above it, in its tree and in those that this belongs to
abbrev pub marked_all : Place → List Node → List Node
marked_all at xs = map (λ x. with_dirty (x.dirty || (is_above at x || is_over xs at.root x)) x) xs

-- nodes of which none is writable
abbrev pub cleaned_all : List Node → List Node
cleaned_all xs = map (with_dirty false) xs

-- whether x is a node that isn't writable, and is the one at a place or above it, but no root
abbrev pub is_copied : Place → Node → Bool
is_copied at x = x.loaded && (not x.dirty && (nat_lt x.bits 63 && is_above at x))

-- how many there are
abbrev pub count_copied : Place → List Node → ℕ
count_copied at xs = count_by (is_copied at) xs

-- nodes for each of which it is counted anew
abbrev pub recounted_all : List Node → List Node
recounted_all xs = map (λ x. with_copies (count_copied (place_of x) xs) x) xs

-- whether two references have one key, and both lead further down or neither
abbrev pub names_same : Ref → Ref → Bool
names_same q r = r.key == q.key && (if is_indirect q then is_indirect r else not (is_indirect r))

-- whether no reference of a list has the key of q
abbrev pub lacks : List Ref → Ref → Bool
lacks rs q = not (any_of (names_same q) rs)

-- whether a reference whose range holds the key is missing in the second list
abbrev pub loses : List Ref → List Ref → ℕ → Bool
loses old new key = any_of (λ q. holds key q && lacks new q) old

-- whether a node of the tree with this root, shorter than 2 ^ bits, is below a reference that is missing
abbrev pub goes : ℕ → ℕ → List Ref → List Ref → Node → Bool
goes root bits old new x = x.root == root && (nat_lt x.bits bits && loses old new x.low)

-- whether an owner is a leaf of the tree with this root to which a reference leads that is missing
abbrev pub is_lost : ℕ → List Ref → List Ref → Owner → Bool
is_lost root old new o = o.root == root && loses old new o.key

-- whether a tree belongs to such a leaf
abbrev pub goes_with : List Node → ℕ → List Ref → List Ref → ℕ → Bool
goes_with xs root old new m = on_chain (is_lost root old new) xs (suc m) m

-- a node that stands no longer, nor can be loaded again
abbrev pub lost : Node → Node
lost x = record { set = x.set; loaded = false; up = None; root = x.root; low = x.low; bits = x.bits; dirty = x.dirty; copies = x.copies; leaf_bits = x.leaf_bits; inode = None; owner = x.owner; held = x.held; leaves = x.leaves }

-- a node, once another set took the place of an old one: lost, or as it was
abbrev pub dropped : List Node → ℕ → ℕ → List Ref → List Ref → Node → Node
dropped xs root bits old new x = if goes root bits old new x || goes_with xs root old new x.root then lost x else x

-- nodes of which those are lost that are below references that are missing, or belong to what these lead to
abbrev pub dropped_all : ℕ → ℕ → List Ref → List Ref → List Node → List Node
dropped_all root bits old new xs = map (dropped xs root bits old new) xs

-- what the block of a node holds, loaded or not: its set and its inode; its first key, the node above it, and the leaf
-- that names it
pub record Block : Type 0 where
  pub set : RefSet
  pub inode : Option Inode
  pub low : ℕ
  pub up : Option ℕ
  pub owner : Option Owner

-- what the block of a node has
abbrev pub block : Node → Block
block x = record { set = x.set; inode = x.inode; low = x.low; up = x.up; owner = x.owner }

-- the block of a new root that no leaf names: an empty set of capacity 4, and no inode
abbrev pub root_block : KeyClass → Block
root_block keys = record { set = record { refs = []; capacity = 4 }; inode = None; low = first_key keys; up = None; owner = None }
