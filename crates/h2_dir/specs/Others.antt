-- What a change of one directory leaves of all other trees.
use Rattle.std.specs.Prelude.{◌≡◌, ℕ, Bool, Option}
use Rattle.h2_ref.specs.declared.reference.Ref.{Ref}
use Rattle.h2_set.specs.Forest.{Forest}
use Rattle.h2_inode.specs.declared.inode.Inode.{Inode}
use Rattle.h2_inode.specs.declared.kind.InodeKind.TheVariants.{Directory, Pfs}
use Rattle.h2_inode.specs.Nodes.{Fields, Told, HasInode}
use Rattle.h2_inode.specs.Directory.{Entries}
use Rattle.h2_inode.specs.Loaded.{View}
use Rattle.h2_inode.specs.Others.{KeepsTree}
use Rattle.h2_dir.specs.Finding.{HoldsEntries}

-- the trees of all directories and files but this one stay
abbrev pub KeepsOtherTrees : View → View → ℕ → Type 0
KeepsOtherTrees u v dir = (c : ℕ) (i : Inode) → HasInode u.forest u.holds c i → (i.kind ≡ Pfs → ⊥) → (c ≡ dir → ⊥) → KeepsTree u v c

-- what other directories stand for stays
abbrev pub KeepsOtherEntries : (f g : Forest) (old new : ℕ → Option Fields) (was now : Ref → Option Told) → ℕ → Type 0
KeepsOtherEntries f g old new was now dir =
    (c : ℕ) (i : Inode) (may : ℕ → ℕ → Bool) (size : ℕ) (entries : Entries) → HasInode f old c i → i.kind ≡ Directory → (c ≡ dir → ⊥) → HoldsEntries f old was may c size entries → HoldsEntries g new now may c size entries
