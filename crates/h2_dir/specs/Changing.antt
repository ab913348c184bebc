-- What adding an entry to a directory, or taking one out, changes.
use Rattle.std.specs.Prelude.{◌≡◌, ◌<◌, ◌≤◌, ⊤, ℕ, ◌+◌, ◌-◌, List, ◌++◌, replicate, length, Option, Some, None}
use Rattle.h2_num.specs.declared.block.Block.{Block}
use Rattle.h2_ref.specs.declared.reference.Kind.TheVariants as kinds
use Rattle.h2_ref.specs.declared.reference.Check.{Check}
use Rattle.h2_ref.specs.declared.reference.Check.TheVariants.{Nothing}
use Rattle.h2_ref.specs.declared.reference.Dirent.{Dirent}
use Rattle.h2_ref.specs.declared.reference.Ref.{Ref}
use Rattle.h2_set.specs.RefSet.{RefSet}
use Rattle.h2_set.specs.Forest.{Forest, Reaches}
use Rattle.h2_tree.specs.Changes.{Inserts, Removes, KeepsPaths}
use Rattle.h2_inode.specs.declared.inode.Body.TheVariants.{Refs}
use Rattle.h2_inode.specs.declared.inode.Inode.{Inode}
use Rattle.h2_inode.specs.declared.kind.InodeKind.TheVariants.{Directory}
use Rattle.h2_inode.specs.Nodes.{Fields, HasInode, Replaces}

-- an entry whose name stands in it: the name and then zeros, 64 bytes
abbrev pub short_entry : List ℕ → ℕ → ℕ → Dirent
short_entry name number target = record { number = number; len = length name; target = target; name = name ++ replicate (64 - length name) 0 }

-- an entry whose name has a block
abbrev pub long_entry : List ℕ → ℕ → ℕ → Dirent
long_entry name number target = record { number = number; len = length name; target = target; name = replicate 64 0 }

-- The reference of an entry: the epoch is its id. A name without a block stands in the entry.
abbrev pub entry_ref : ℕ → ℕ → List ℕ → Option (Block × Check) → ℕ → ℕ → Ref
entry_ref epoch key name None number target = record { kind = kinds.Dirent; key = key; keybits = 0; place = 0; radix = 0; id = epoch; check = Nothing; dirent = Some (short_entry name number target) }
entry_ref epoch key name (Some named) number target = record { kind = kinds.Dirent; key = key; keybits = 0; place = named.0.place; radix = named.0.radix; id = epoch; check = named.1; dirent = Some (long_entry name number target) }

-- a name has a block, with its check, exactly where it is longer than 64 bytes
abbrev pub HasBlockIfLong : List ℕ → Option (Block × Check) → Type 0
HasBlockIfLong name None = length name ≤ 64
HasBlockIfLong name (Some named) = 65 ≤ length name

-- A name without a block stands in the entry. Of one with a block, the forest tells that the block holds it.
abbrev pub TellsName : Forest → Ref → List ℕ → Option (Block × Check) → Type 0
TellsName f leaf name None = ⊤
TellsName f leaf name (Some named) = f.name leaf ≡ Some name

-- an inode with references
pub record HasRefs (i : Inode) : Type 0 where
  pub set : RefSet
  pub body_is : i.body ≡ Refs set

-- the inode with another size
abbrev pub with_size : Inode → ℕ → Inode
with_size i size = record { kind = i.kind; number = i.number; size = size; links = i.links; next = i.next; name = i.name; body = i.body }

-- the inode with another size and another set
abbrev pub with_entries : Inode → ℕ → RefSet → Inode
with_entries i size set = record { kind = i.kind; number = i.number; size = size; links = i.links; next = i.next; name = i.name; body = Refs set }

-- root dir is that of a directory's inode
pub record IsDirectoryRoot (f : Forest) (holds : ℕ → Option Fields) (dir : ℕ) : Type 0 where
  pub inode : Inode
  pub has : HasInode f holds dir inode
  pub kind : inode.kind ≡ Directory

-- root dir is that of a directory's inode, whose body is references, with room for one entry more
pub record HasRoom (f : Forest) (holds : ℕ → Option Fields) (dir : ℕ) : Type 0 where
  pub inode : Inode
  pub has : HasInode f holds dir inode
  pub kind : inode.kind ≡ Directory
  pub refs : HasRefs inode
  pub few : inode.size < 4096

-- The leaf went into the tree of the root, where the key had none; then the inode of the root got another size, its
-- set being the same.
pub record Adds (f g : Forest) (dir : ℕ) (leaf : Ref) : Type 0 where
  pub between : Forest
  pub inserts : Inserts f between dir leaf None
  pub paths : KeepsPaths f between dir leaf
  pub path : Reaches between leaf.key dir (Some leaf)
  pub resizes : Replaces between g dir (between.set dir)

-- The leaf went out of the tree of the root; then the inode of the root got another size, its set being the same.
pub record TakesAway (f g : Forest) (dir : ℕ) (leaf : Ref) : Type 0 where
  pub between : Forest
  pub removes : Removes f between dir leaf
  pub paths : KeepsPaths f between dir leaf
  pub path : Reaches between leaf.key dir None
  pub resizes : Replaces between g dir (between.set dir)

-- What adding takes: the room falls by the nodes that are copied for it and by the block that a split makes, and spare
-- nodes by that block alone.
pub record AddsWithin (f g : Forest) (dir : ℕ) (leaf : Ref) : Type 0 where
  pub adds : Adds f g dir leaf
  pub room : let goes = adds.inserts.goes in let then = goes.then in g.room + then.copies goes.node + goes.blocks ≡ f.room
  pub spare : let goes = adds.inserts.goes in g.spare + goes.blocks ≡ f.spare

-- What taking out takes: the room falls by the nodes that are copied for it, and spare nodes stay.
pub record TakesWithin (f g : Forest) (dir : ℕ) (leaf : Ref) : Type 0 where
  pub takes : TakesAway f g dir leaf
  pub room : let goes = takes.removes.goes in let then = goes.then in g.room + then.copies goes.node ≡ f.room
  pub spare : g.spare ≡ f.spare
