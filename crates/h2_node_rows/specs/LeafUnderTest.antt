-- Leaves of a super-root's tree.
use Rattle.std.specs.Prelude.{◌≡◌, ◌<◌, ◌^◌}
use Rattle.h2_ref.specs.declared.reference.Kind.TheVariants.{Inode as Inode_kind}
use Rattle.h2_ref.specs.declared.reference.Ref.{Ref}
use Rattle.h2_set.specs.SetBytes.{IsHeld}

-- the leaf of an inode, which can be written
pub record IsNumberedLeaf (r : Ref) : Type 0 where
  pub kind : r.kind ≡ Inode_kind
  pub number : r.key < 2 ^ 62
  pub keybits : r.keybits ≡ 0
  pub held : IsHeld r
