-- Files whose contents lie in blocks, each block named by a content reference of the file's tree.
use Rattle.std.specs.Prelude.{◌≡◌, ℕ, true, Option}
use Rattle.h2_ref.specs.declared.reference.Ref.{Ref}
use Rattle.h2_ref.specs.declared.reference.Kind.TheVariants.{Content}
use Rattle.h2_set.specs.Forest.{Forest}
use Rattle.h2_set.specs.SetBytes.{IsHeld}
use Rattle.h2_set.specs.RefSet.{RefSet}
use Rattle.h2_inode.specs.declared.kind.InodeKind.TheVariants.{File}
use Rattle.h2_inode.specs.declared.inode.Body.TheVariants.{Refs}
use Rattle.h2_inode.specs.declared.inode.Inode.{Inode}
use Rattle.h2_inode.specs.Nodes.{Fields, HasInode}

-- node at is the root of a file
pub record IsFile (f : Forest) (holds : ℕ → Option Fields) (at : ℕ) : Type 0 where
  pub inode : Inode
  pub has : HasInode f holds at inode
  pub kind : inode.kind ≡ File

-- node at is the root of a file whose body is references
pub record IsFileOfRefs (f : Forest) (holds : ℕ → Option Fields) (at : ℕ) : Type 0 where
  pub inode : Inode
  pub has : HasInode f holds at inode
  pub kind : inode.kind ≡ File
  pub set : RefSet
  pub body : inode.body ≡ Refs set

-- the tree of node at may have no leaf but content references, of 16384 bytes each
pub record HasContents (f : Forest) (at : ℕ) : Type 0 where
  pub kinds : (r : Ref) → f.allows (f.root at) r ≡ true → (r.kind ≡ Content) × IsHeld r
  pub kinds_all : (r : Ref) → r.kind ≡ Content → IsHeld r → f.allows (f.root at) r ≡ true
  pub keybits : f.leaf_bits (f.root at) ≡ 14
