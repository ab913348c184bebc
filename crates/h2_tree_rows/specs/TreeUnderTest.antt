-- A tree in memory, and which leaves it may have.
use Rattle.std.specs.Prelude.{◌≡◌, true, false, ℕ, ◌+◌, ◌%◌, ◌^◌, ◌≤◌, ◌<◌, ◌⊎◌}
use Rattle.h2_ref.specs.declared.reference.Kind.TheVariants.{Empty, Inode}
use Rattle.h2_ref.specs.declared.reference.Ref.{Ref}
use Rattle.h2_set.specs.Forest.{Forest}
use Rattle.h2_memory_sets.specs.declared.node.KeyClass.{KeyClass}
use Rattle.h2_memory_sets.specs.declared.memory.MemorySets.{MemorySets}
use Rattle.h2_memory_sets.specs.View.{first_key}
use Rattle.h2_memory_sets.specs.Seen.{forest_of}
use Rattle.h2_memory_sets.specs.Roots.{IsTreeRoot}

-- a key that a leaf with these keybits may have
pub record IsLeafKey (keys : KeyClass) (key bits : ℕ) : Type 0 where
  pub aligned : key % 2 ^ bits ≡ 0
  pub class : (key < 2 ^ 62) ⊎ (2 ^ 63 ≤ key)
  pub low : first_key keys ≤ key
  pub high : key + 2 ^ bits ≤ first_key keys + 2 ^ 63

-- node root is the root of a tree with these keys, and with leaves of these keybits, which may be of every kind that
-- names something but an inode
pub record IsPlainTree (f : Forest) (root : ℕ) (keys : KeyClass) (bits : ℕ) : Type 0 where
  pub top : IsTreeRoot f root keys bits
  -- no root is held
  pub free : (m : ℕ) → f.held m ≡ false
  pub allows : (r : Ref) → (r.kind ≡ Inode → ⊥) → (r.kind ≡ Empty → ⊥) → f.allows root r ≡ true

-- a value in memory has such a tree at this root
abbrev pub IsTree : MemorySets → ℕ → KeyClass → ℕ → Type 0
IsTree sets root keys bits = IsPlainTree (forest_of sets) root keys bits
