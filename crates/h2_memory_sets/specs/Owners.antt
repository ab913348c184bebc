-- Which leaves name the roots of inodes, and which leaves their trees may have.
use Rattle.std.specs.Prelude.{ℕ, zero, suc, Bool, true, false, ◌&&◌, ◌||◌, ◌==◌, List, [], Option, Some, None, slice_get}
use Rattle.h2_ref.specs.declared.reference.Kind.{Kind}
use Rattle.h2_ref.specs.declared.reference.Kind.TheVariants.{Empty, Inode as Inode_kind, Indirect, Content, Dirent, MapNode, MapLeaf}
use Rattle.h2_ref.specs.declared.reference.Ref.{Ref}
use Rattle.h2_set.specs.RefSet.{RefSet}
use Rattle.h2_inode.specs.declared.kind.InodeKind.{InodeKind}
use Rattle.h2_inode.specs.declared.kind.InodeKind.TheVariants.{Directory, File, Pfs}
use Rattle.h2_inode.specs.declared.inode.Body.{Body}
use Rattle.h2_inode.specs.declared.inode.Body.TheVariants.{Refs, Bytes}
use Rattle.h2_inode.specs.declared.inode.Inode.{Inode}
use Rattle.h2_set.specs.HeldTest.{passes_as_held}
use Rattle.h2_memory_sets.specs.declared.node.Owner.{Owner}
use Rattle.h2_memory_sets.specs.declared.node.Leaves.{Leaves}
use Rattle.h2_memory_sets.specs.declared.node.Leaves.TheVariants.{Any, Inodes}
use Rattle.h2_memory_sets.specs.declared.node.Node.{Node}

-- the leaf that names the root
abbrev pub owner_of : Option Node → Option Owner
owner_of None = None
owner_of (Some x) = x.owner

-- whether an owner passes, or what is told of its root by `up`
abbrev pub either : (Owner → Bool) → (ℕ → Bool) → Option Owner → Bool
either p up None = false
either p up (Some o) = p o || up o.root

-- whether an owner passes of the first n: that of the root m, that of the owner's root, and so on
abbrev pub on_chain : (Owner → Bool) → List Node → ℕ → ℕ → Bool
on_chain p xs zero m = false
on_chain p xs (suc n) m = either p (λ t. on_chain p xs n t) (owner_of (slice_get xs m))

-- whether an owner is the leaf with the key in the tree of the root
abbrev pub is_owner : ℕ → ℕ → Owner → Bool
is_owner root key o = o.root == root && o.key == key

-- whether the root of a tree belongs to the leaf; an owner's root has a lower number than what it owns
abbrev pub belongs_to : List Node → ℕ → ℕ → ℕ → Bool
belongs_to xs root top key = on_chain (is_owner top key) xs (suc root) root

-- the same body with another set, where it has one
abbrev pub refit_body : Body → RefSet → Body
refit_body (Refs t) s = Refs s
refit_body (Bytes bytes) s = Bytes bytes

-- the same inode with another set in its body
abbrev pub refit_inode : Inode → RefSet → Inode
refit_inode i s = record { kind = i.kind; number = i.number; size = i.size; links = i.links; next = i.next; name = i.name; body = refit_body i.body s }

-- the same inode with another set, where there is an inode
abbrev pub refit : Option Inode → RefSet → Option Inode
refit None s = None
refit (Some i) s = Some (refit_inode i s)

-- whether leaves of this kind are those of an inode of the other
abbrev pub is_leaf_of : InodeKind → Kind → Bool
is_leaf_of kind Empty = false
is_leaf_of Directory Dirent = true
is_leaf_of File Dirent = false
is_leaf_of Pfs Dirent = false
is_leaf_of Directory Content = false
is_leaf_of File Content = true
is_leaf_of Pfs Content = false
is_leaf_of Directory Inode_kind = false
is_leaf_of File Inode_kind = false
is_leaf_of Pfs Inode_kind = true
is_leaf_of kind Indirect = false
is_leaf_of kind MapNode = false
is_leaf_of kind MapLeaf = false

-- whether the tree of an inode may have the leaf
abbrev pub inode_allows : InodeKind → Body → Ref → Bool
inode_allows kind (Refs s) r = is_leaf_of kind r.kind && passes_as_held r
inode_allows kind (Bytes bytes) r = false

-- whether a reference of the kind names something, but no inode
abbrev pub is_plain : Kind → Bool
is_plain Empty = false
is_plain Inode_kind = false
is_plain Indirect = true
is_plain Content = true
is_plain Dirent = true
is_plain MapNode = true
is_plain MapLeaf = true

-- whether the tree of a root without an inode may have the leaf: where it isn't one of inodes alone, it has none that
-- names an inode, nor one that names nothing
abbrev pub tree_allows : Leaves → Ref → Bool
tree_allows Any r = is_plain r.kind
tree_allows Inodes r = is_leaf_of Pfs r.kind && passes_as_held r

-- whether the tree of a root may have the leaf, by its inode, where it has one
abbrev pub allowed_by : Option Inode → Leaves → Ref → Bool
allowed_by None leaves r = tree_allows leaves r
allowed_by (Some i) leaves r = inode_allows i.kind i.body r

-- of a root, whether its tree may have the leaf
abbrev pub allows_of : Option Node → Ref → Bool
allows_of None r = false
allows_of (Some x) r = allowed_by x.inode x.leaves r

-- whether a root is held
abbrev pub held_of : Option Node → Bool
held_of None = false
held_of (Some x) = x.loaded && x.held

-- the inode of a root
abbrev pub inode_of : Option Node → Option Inode
inode_of None = None
inode_of (Some x) = x.inode

-- what a root keeps beside its set: its inode without a set
abbrev pub beside_of : Option Node → Option Inode
beside_of o = refit (inode_of o) (record { refs = []; capacity = 4 })
