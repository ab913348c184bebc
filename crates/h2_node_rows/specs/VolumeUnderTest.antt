-- Inodes in memory below a super-root, with the leaf of one directory.
use Rattle.std.specs.Prelude.{◌≡◌, ℕ, true, false, Option, []}
use Rattle.h2_ref.specs.declared.reference.Kind.TheVariants.{Inode as Inode_kind}
use Rattle.h2_ref.specs.declared.reference.Ref.{Ref}
use Rattle.h2_set.specs.SetBytes.{IsHeld}
use Rattle.h2_set.specs.Forest.{Forest, IsSound}
use Rattle.h2_inode.specs.declared.inode.Inode.{Inode}
use Rattle.h2_inode.specs.declared.kind.InodeKind.TheVariants.{Directory}
use Rattle.h2_inode.specs.Nodes.{Fields, held_by, set_of, HasInode, IsInodeLeaf, IsPlantable}
use Rattle.h2_memory_sets.specs.declared.memory.MemorySets.{MemorySets}
use Rattle.h2_memory_sets.specs.Seen.{beside_seen}
use Rattle.h2_memory_sets.specs.Inodes.{fields_seen}
use Rattle.h2_pfs.specs.SuperRoot.{IsSuperRoot}

-- a super-root that belongs to nothing, where nothing is held
pub record IsTop (f : Forest) (root : ℕ) : Type 0 where
  pub sound : IsSound f
  pub super_root : IsSuperRoot f root
  pub unowned : (t k : ℕ) → f.belongs root t k ≡ false
  pub free : (m : ℕ) → f.held m ≡ false

-- the leaf of inode 1, which can be written
pub record IsLeaf (r : Ref) : Type 0 where
  pub kind : r.kind ≡ Inode_kind
  pub number : r.key ≡ 1
  pub keybits : r.keybits ≡ 0
  pub held : IsHeld r

-- the tree of a root that belongs to nothing has the leaf of inode 1, and nothing is held
pub record IsVolume (f : Forest) (root : ℕ) (leaf : Ref) : Type 0 where
  pub sound : IsSound f
  pub named : IsInodeLeaf f root leaf
  pub number : leaf.key ≡ 1
  pub unowned : (t k : ℕ) → f.belongs root t k ≡ false
  pub free : (m : ℕ) → f.held m ≡ false

-- what the roots hold of inodes
abbrev pub holds_of : MemorySets → ℕ → Option Fields
holds_of nodes = held_by fields_seen (beside_seen nodes)

-- directory 1, with a tree without leaves
pub record IsEmptyDirectory (i : Inode) : Type 0 where
  pub kind : i.kind ≡ Directory
  pub number : i.number ≡ 1
  pub empty : set_of i.body ≡ record { refs = []; capacity = 4 }
  pub plantable : IsPlantable i

-- node c is the writable root of such a directory
pub record IsWorked (f : Forest) (holds : ℕ → Option Fields) (c : ℕ) : Type 0 where
  pub inode : Inode
  pub is_empty : IsEmptyDirectory inode
  pub has : HasInode f holds c inode
  pub writable : f.writable c ≡ true
