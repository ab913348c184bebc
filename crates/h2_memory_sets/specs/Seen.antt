-- What a value is seen as.
use Rattle.std.specs.Prelude.{◌≡◌, ℕ, List, Option, None, map, slice_get}
use Rattle.h2_ref.specs.declared.reference.Ref.{Ref}
use Rattle.h2_set.specs.Forest.{Forest}
use Rattle.h2_memory_sets.specs.declared.memory.MemorySets.{MemorySets}
use Rattle.h2_inode.specs.declared.inode.Inode.{Inode}
use Rattle.h2_inode.specs.Nodes.{Told}
use Rattle.h2_memory_sets.specs.Names.{name_in}
use Rattle.h2_memory_sets.specs.Owners.{beside_of}
use Rattle.h2_memory_sets.specs.View.{Block, block, forest_with}

-- the forest that the value is seen as
abbrev pub forest_of : MemorySets → Forest
forest_of p = forest_with p.nodes.items p.spare p.epoch p.room p.failed p.bad p.met

-- what each root keeps beside its set
abbrev pub beside_seen : MemorySets → ℕ → Option Inode
beside_seen p = λ m. beside_of (slice_get p.nodes.items m)

-- the blocks of all nodes, loaded or not
abbrev pub blocks_of : MemorySets → List Block
blocks_of p = map block p.nodes.items

-- the name of this length in the block at a place, where there is one
abbrev pub name_of : MemorySets → ℕ → ℕ → Option (List ℕ)
name_of p place len = name_in p.names.items place len

-- all names are as before
abbrev pub KeepsNames : MemorySets → MemorySets → Type 0
KeepsNames p q = (place len : ℕ) → name_of q place len ≡ name_of p place len

-- which load from now on the disk fails: 1 for the next, 0 for none
abbrev pub failing_load : MemorySets → ℕ
failing_load p = p.fault

-- which load from now on meets a bad block, in the same way
abbrev pub spoiled_load : MemorySets → ℕ
spoiled_load p = p.spoiled

-- which call for spare nodes from now on is refused, in the same way
abbrev pub refused_spare : MemorySets → ℕ
refused_spare p = p.refused

-- the loads and the call that are to fail are as before
pub record KeepsPlans (p q : MemorySets) : Type 0 where
  pub failing : failing_load q ≡ failing_load p
  pub spoiled : spoiled_load q ≡ spoiled_load p
  pub refused : refused_spare q ≡ refused_spare p

-- no block of an inode is told
abbrev pub told_of : MemorySets → Ref → Option Told
told_of p r = None
