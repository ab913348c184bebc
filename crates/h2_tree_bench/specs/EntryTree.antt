-- A tree that may have a directory's entries.
use Rattle.std.specs.Prelude.{◌≡◌, ℕ, true}
use Rattle.h2_ref.specs.declared.reference.Kind.TheVariants.{Dirent}
use Rattle.h2_ref.specs.declared.reference.Ref.{Ref}
use Rattle.h2_set.specs.Forest.{Forest}
use Rattle.h2_memory_sets.specs.declared.node.KeyClass.TheVariants.{High}
use Rattle.h2_memory_sets.specs.Roots.{IsTreeRoot}

-- node root is the root of a tree that may have every entry
pub record IsEntryTree (f : Forest) (root : ℕ) : Type 0 where
  pub top : IsTreeRoot f root High 0
  pub allows : (r : Ref) → r.kind ≡ Dirent → f.allows root r ≡ true
