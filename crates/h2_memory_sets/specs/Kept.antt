-- What stands at any time of the nodes of inodes, loaded or not.
use Rattle.std.specs.Prelude.{◌≡◌, ℕ, ◌<◌, Bool, true, false, List, Option, Some, None, length, slice_get}
use Rattle.h2_inode.specs.declared.inode.Inode.{Inode}
use Rattle.h2_inode.specs.Inode.{keys_from}
use Rattle.h2_inode.specs.Nodes.{leaf_keybits, set_of as set_of_body}
use Rattle.h2_memory_sets.specs.declared.node.Owner.{Owner}
use Rattle.h2_memory_sets.specs.declared.node.Node.{Node}

-- whether there is an inode
abbrev pub is_known : Option Inode → Bool
is_known None = false
is_known (Some v) = true

-- a leaf names a root, and the root of its tree has a lower number; a loaded one is that of an inode
pub record IsNamedRoot (i : ℕ) (x : Node) (o : Owner) : Type 0 where
  pub lower : o.root < i
  pub root : x.root ≡ i
  pub bare : x.up ≡ None
  pub known : x.loaded ≡ true → is_known x.inode ≡ true

-- node i is the root of the inode
pub record IsInodeRoot (i : ℕ) (x : Node) (v : Inode) : Type 0 where
  pub root : x.root ≡ i
  pub bare : x.up ≡ None
  pub low : x.low ≡ keys_from v.kind
  pub bits : x.bits ≡ 63
  pub leaf_bits : x.leaf_bits ≡ leaf_keybits v.kind
  pub set : x.set ≡ set_of_body v.body
  -- its number is the key of the leaf that names it
  pub number : (o : Owner) → x.owner ≡ Some o → v.number ≡ o.key

-- each node that a leaf names is a root, and so is each that has an inode; no leaf names two loaded roots; nothing is
-- below a node that isn't there
pub record AreKept (xs : List Node) : Type 0 where
  pub above : (i : ℕ) (x : Node) (u : ℕ) → slice_get xs i ≡ Some x → x.up ≡ Some u → u < length xs
  pub owner : (i : ℕ) (x : Node) (o : Owner) → slice_get xs i ≡ Some x → x.owner ≡ Some o → IsNamedRoot i x o
  pub inode : (i : ℕ) (x : Node) (v : Inode) → slice_get xs i ≡ Some x → x.inode ≡ Some v → IsInodeRoot i x v
  pub one : (i j : ℕ) (x y : Node) (o : Owner) → slice_get xs i ≡ Some x → slice_get xs j ≡ Some y → x.loaded ≡ true → y.loaded ≡ true → x.owner ≡ Some o → y.owner ≡ Some o → i ≡ j
