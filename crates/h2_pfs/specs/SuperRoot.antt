-- The super-root: the root of the tree whose leaves name the PFSs.
use Rattle.std.specs.Prelude.{◌≡◌, ◌↔◌, ℕ, true}
use Rattle.h2_ref.specs.declared.reference.Kind.TheVariants.{Inode as Inode_kind}
use Rattle.h2_ref.specs.declared.reference.Ref.{Ref}
use Rattle.h2_set.specs.Forest.{Forest}
use Rattle.h2_set.specs.SetBytes.{IsHeld}

-- node top is a root with the lower half of all keys, and its tree has leaves of inodes alone, of one key each
pub record IsSuperRoot (f : Forest) (top : ℕ) : Type 0 where
  pub stands : f.stands top ≡ true
  pub root : f.root top ≡ top
  pub low : f.low top ≡ 0
  pub bits : f.bits top ≡ 63
  pub leaf_bits : f.leaf_bits top ≡ 0
  pub allows : (r : Ref) → (f.allows top r ≡ true) ↔ ((r.kind ≡ Inode_kind) × IsHeld r)
