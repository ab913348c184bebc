-- A directory's tree and a file's are read from their leaves alone, whatever inodes are loaded, made or replaced.
use Rattle.std.specs.Prelude.{◌≡◌, ℕ, List, Some}
use Rattle.std.proofs.Common.{inl, inr}
use Rattle.h2_num.specs.Places.{Places}
use Rattle.h2_ref.specs.declared.reference.Ref.{Ref}
use Rattle.h2_ref.specs.declared.reference.Dirent.{Dirent}
use Rattle.h2_set.specs.Forest.{KeepsLeaves}
use Rattle.h2_inode.specs.Access.{HasLeaves}
use Rattle.h2_inode.specs.Contents.{IsPart, IsContents}
use Rattle.h2_inode.specs.Directory.{Entries, IsNameOf, IsEntry, IsDirectory}
use Rattle.h2_inode.specs.ListLaws.{each_mapped, all_mapped}
use Rattle.h2_inode.specs.Loaded.{at_root, View, reading}

module _ (u v : View) (Content : Ref → Places → Type 0) (at : ℕ) (keeps : KeepsLeaves u.forest v.forest at) where
  has_kept : (l : List Ref) → HasLeaves (reading u Content) (at_root at) l → HasLeaves (reading v Content) (at_root at) l
  has_kept l h = record { read = keeps l h.read; ordered = h.ordered }

  part_kept : (size : ℕ) (bytes : List ℕ) (r : Ref) → IsPart (reading u Content) (at_root at) size bytes r → IsPart (reading v Content) (at_root at) size bytes r
  part_kept size bytes r h = record {
    kind_is = h.kind_is;
    keybits_are = h.keybits_are;
    aligned = h.aligned;
    below_size = h.below_size;
    block = h.block;
    read = h.read;
    bytes_are = h.bytes_are;
  }

  -- where the leaves stay, a file's bytes do
  pub contents_kept : (size : ℕ) (bytes : List ℕ) → IsContents (reading u Content) (at_root at) size bytes → IsContents (reading v Content) (at_root at) size bytes
  contents_kept size bytes h = record {
    leaves = h.leaves;
    has = has_kept h.leaves h.has;
    parts = all_mapped (IsPart (reading u Content) (at_root at) size bytes) (IsPart (reading v Content) (at_root at) size bytes) (part_kept size bytes) h.leaves h.parts;
    holes = h.holes;
    sized = h.sized;
  }

  module _ (Target : ℕ → ℕ → Type 0) (names : (r : Ref) (name : List ℕ) → u.forest.name r ≡ Some name → v.forest.name r ≡ Some name) where
    name_kept : (r : Ref) (e : Dirent) (n : List ℕ) → IsNameOf (reading u Content) (at_root at) r e n → IsNameOf (reading v Content) (at_root at) r e n
    name_kept r e n (inl h) = inl h
    name_kept r e n (inr h) = inr (h.0, names r n h.1)

    pub entry_kept : (r : Ref) (named : List ℕ × ℕ) → IsEntry (reading u Content) Target (at_root at) r named → IsEntry (reading v Content) Target (at_root at) r named
    entry_kept r named h = record {
      kind_is = h.kind_is;
      entry = h.entry;
      entry_is = h.entry_is;
      number_is = h.number_is;
      name_is = name_kept r h.entry named.0 h.name_is;
      length_is = h.length_is;
      under = h.under;
      target_fits = h.target_fits;
    }

    -- where the leaves and the names stay, a directory's entries do
    pub directory_kept : (size : ℕ) (entries : Entries) → IsDirectory (reading u Content) Target (at_root at) size entries → IsDirectory (reading v Content) Target (at_root at) size entries
    directory_kept size entries h = record {
      leaves = h.leaves;
      has = has_kept h.leaves h.has;
      named = h.named;
      each = each_mapped (IsEntry (reading u Content) Target (at_root at)) (IsEntry (reading v Content) Target (at_root at)) entry_kept h.leaves h.named h.each;
      differ = h.differ;
      counted = h.counted;
      entries_are = h.entries_are;
    }
