-- Roots of inodes, and what is read of them.
use Rattle.std.specs.Prelude.{◌≡◌, ℕ, Bool, true, false, ◌&&◌, List, Option, Some, None, slice_get, map}
use Rattle.std.specs.List.{position}
use Rattle.h2_ref.specs.declared.reference.Ref.{Ref}
use Rattle.h2_set.specs.RefSet.{IsRefSet}
use Rattle.h2_inode.specs.declared.inode.Inode.{Inode}
use Rattle.h2_inode.specs.Inode.{keys_from, IsInode}
use Rattle.h2_inode.specs.Nodes.{leaf_keybits, set_of as set_of_body, Fields, fields_of}
use Rattle.h2_memory_sets.specs.declared.node.Leaves.TheVariants.{Any}
use Rattle.h2_memory_sets.specs.declared.node.Node.{Node}
use Rattle.h2_memory_sets.specs.declared.node.Owner.{Owner}
use Rattle.h2_memory_sets.specs.Owners.{is_owner, owner_of}
use Rattle.h2_memory_sets.specs.View.{is_below, FitsBelow, range_of}

-- what a root holds of an inode, by what it keeps beside its set
abbrev pub fields_seen : Option Inode → Option Fields
fields_seen None = None
fields_seen (Some i) = Some (fields_of i)

-- the writable root of a new inode, at this place of the vector
abbrev pub inode_node : ℕ → Owner → Inode → Node
inode_node n leaf i = record { set = set_of_body i.body; loaded = true; up = None; root = n; low = keys_from i.kind; bits = 63; dirty = true; copies = 0; leaf_bits = leaf_keybits i.kind; inode = Some i; owner = Some leaf; held = false; leaves = Any }

-- a root with another inode
abbrev pub with_inode : Inode → Node → Node
with_inode i x = record { set = set_of_body i.body; loaded = x.loaded; up = x.up; root = x.root; low = x.low; bits = x.bits; dirty = x.dirty; copies = x.copies; leaf_bits = x.leaf_bits; inode = Some i; owner = x.owner; held = x.held; leaves = x.leaves }

-- a root that was loaded
abbrev pub sought : Node → Node
sought x = record { set = x.set; loaded = true; up = x.up; root = x.root; low = x.low; bits = x.bits; dirty = false; copies = 0; leaf_bits = x.leaf_bits; inode = x.inode; owner = x.owner; held = false; leaves = x.leaves }

-- whether the leaf names the root
abbrev pub owned_by : ℕ → ℕ → Option Owner → Bool
owned_by root key None = false
owned_by root key (Some o) = is_owner root key o

-- whether a node is loaded, and the leaf names it
abbrev pub is_sought : ℕ → ℕ → Node → Bool
is_sought root key x = x.loaded && owned_by root key x.owner

-- a node is the root of an inode that can be spelled and has the number, and its references may stand there
pub record IsRootNode (x : Node) (i : Inode) (key : ℕ) : Type 0 where
  pub set : IsRefSet x.set
  pub capacity : let s = x.set in s.capacity ≡ 4
  pub number : i.number ≡ key
  pub inode : IsInode i
  pub fits : (j : ℕ) (r : Ref) → (let s = x.set in slice_get s.refs j) ≡ Some r → FitsBelow (range_of x) (Some x) r

-- the leaf names node c, which isn't loaded, nor is anything below it, and it is the root of the inode with the number
pub record IsSought (xs : List Node) (root key c : ℕ) : Type 0 where
  pub node : Node
  pub read : slice_get xs c ≡ Some node
  pub away : node.loaded ≡ false
  pub owned : owned_by root key node.owner ≡ true
  pub item : Inode
  pub holds : node.inode ≡ Some item
  pub fits : IsRootNode node item key
  pub bare : position (is_below c) xs ≡ None

-- whether there is an owner, of a node that is loaded
abbrev pub named_by : Option Owner → Bool → Bool
named_by None loaded = false
named_by (Some o) loaded = loaded

-- whether a root has no owner
abbrev pub is_unowned : Option Owner → Bool
is_unowned None = true
is_unowned (Some o) = false

-- whether a root is writable, and no leaf names it
abbrev pub is_settled_top : Option Node → Bool
is_settled_top None = false
is_settled_top (Some x) = x.dirty && is_unowned x.owner

-- whether a node is loaded, and has an owner
abbrev pub is_named : Node → Bool
is_named x = named_by x.owner x.loaded

-- a node that is loaded or not
abbrev pub with_loaded : Bool → Node → Node
with_loaded loaded x = record { set = x.set; loaded = loaded; up = x.up; root = x.root; low = x.low; bits = x.bits; dirty = x.dirty; copies = x.copies; leaf_bits = x.leaf_bits; inode = x.inode; owner = x.owner; held = x.held; leaves = x.leaves }

-- nodes of which those aren't loaded whose tree a leaf names
abbrev pub unsought_all : List Node → List Node
unsought_all xs = map (λ x. with_loaded (x.loaded && is_unowned (owner_of (slice_get xs x.root))) x) xs

-- whether a root is held or not
abbrev pub with_held : Bool → Node → Node
with_held held x = record { set = x.set; loaded = x.loaded; up = x.up; root = x.root; low = x.low; bits = x.bits; dirty = x.dirty; copies = x.copies; leaf_bits = x.leaf_bits; inode = x.inode; owner = x.owner; held = held; leaves = x.leaves }
