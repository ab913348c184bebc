-- What trees stand for in one reading, they stand for in each that follows it.
use Rattle.std.specs.Prelude.{◌≡◌, ◌<◌, ℕ, ◌+◌, ◌%◌, ◌^◌, List, slice_index}
use Rattle.std.proofs.Common.{ap, sym, ◌∙◌, inl, inr, subst}
use Rattle.h2_ref.specs.declared.reference.Ref.{Ref}
use Rattle.h2_ref.specs.declared.reference.Dirent.{Dirent}
use Rattle.h2_dirkey.specs.Key.{IsNameUnder}
use Rattle.h2_inode.specs.Access.{HasLeaves, OneByOne}
use Rattle.h2_inode.specs.Contents.{IsPart, IsContents}
use Rattle.h2_inode.specs.Directory.{Entries, IsNameOf, IsEntry, IsDirectory}
use Rattle.h2_inode.specs.PfsList.{ListedPfs, IsPfs, IsPfsList}
use Rattle.h2_inode.specs.Following.{SameInode, Passage, Follows}
use Rattle.h2_inode.specs.ListLaws.{through, all_through, hole_carried, rising_carried}

module _ (p : Passage) (f : Follows p) where
  pub leaves_carried : (t : p.from.Tree) (u : p.to.Tree) (l : List Ref) → p.Matches t u → HasLeaves p.from t l → (m : List Ref) × HasLeaves p.to u m × OneByOne (p.Like t u) l m
  leaves_carried t u l sim h =
      let g = f.leaves t u l sim h.read in
      (g.0, record { read = g.1; ordered = rising_carried (p.Like t u) (f.like t u) l g.0 g.2 0 (2 ^ 64) h.ordered }, g.2)

  -- Contents

  part_carried : (t : p.from.Tree) (u : p.to.Tree) (size : ℕ) (bytes : List ℕ) (r s : Ref) → p.Like t u r s → IsPart p.from t size bytes r → IsPart p.to u size bytes s
  part_carried t u size bytes r s like h =
      let same = f.like t u r s like in
      record {
        kind_is = same.kind ∙ h.kind_is;
        keybits_are = same.keybits ∙ h.keybits_are;
        aligned = subst (λ k. k % 16384 ≡ 0) (sym same.key) h.aligned;
        below_size = subst (λ k. k < size) (sym same.key) h.below_size;
        block = h.block;
        read = f.content t u r s h.block like h.read;
        bytes_are = λ k lt. h.bytes_are k lt ∙ ap (λ n. slice_index bytes (n + k)) (sym same.key);
      }

  pub contents_carried : (t : p.from.Tree) (u : p.to.Tree) (size : ℕ) (bytes : List ℕ) → p.Matches t u → IsContents p.from t size bytes → IsContents p.to u size bytes
  contents_carried t u size bytes sim h =
      let g = leaves_carried t u h.leaves sim h.has in
      record {
        leaves = g.0;
        has = g.1;
        parts = all_through (p.Like t u) (IsPart p.from t size bytes) (IsPart p.to u size bytes) (part_carried t u size bytes) h.leaves g.0 g.2 h.parts;
        holes = λ k none. h.holes k (hole_carried (p.Like t u) (f.like t u) k h.leaves g.0 g.2 none);
        sized = h.sized;
      }

  name_carried : (t : p.from.Tree) (u : p.to.Tree) (r s : Ref) (e : Dirent) (n : List ℕ) → p.Like t u r s → IsNameOf p.from t r e n → IsNameOf p.to u s e n
  name_carried t u r s e n like (inl h) = inl h
  name_carried t u r s e n like (inr h) = inr (h.0, f.name t u r s n like h.1)

  -- Directories: what is asked of the targets of entries may become less

  module _ (S T : ℕ → ℕ → Type 0) (targets : (target number : ℕ) → S target number → T target number) where
    entry_carried : (t : p.from.Tree) (u : p.to.Tree) (r s : Ref) (named : List ℕ × ℕ) → p.Like t u r s → IsEntry p.from S t r named → IsEntry p.to T u s named
    entry_carried t u r s named like h =
        let same = f.like t u r s like in
        record {
          kind_is = same.kind ∙ h.kind_is;
          entry = h.entry;
          entry_is = same.dirent ∙ h.entry_is;
          number_is = h.number_is;
          name_is = name_carried t u r s h.entry named.0 like h.name_is;
          length_is = h.length_is;
          under = subst (λ k. IsNameUnder k named.0) (sym same.key) h.under;
          target_fits = targets _ _ h.target_fits;
        }

    pub directory_carried : (t : p.from.Tree) (u : p.to.Tree) (size : ℕ) (entries : Entries) → p.Matches t u → IsDirectory p.from S t size entries → IsDirectory p.to T u size entries
    directory_carried t u size entries sim h =
        let g = leaves_carried t u h.leaves sim h.has in
        record {
          leaves = g.0;
          has = g.1;
          named = h.named;
          each = through (p.Like t u) (IsEntry p.from S t) (IsEntry p.to T u) (entry_carried t u) h.leaves g.0 h.named g.2 h.each;
          differ = h.differ;
          counted = h.counted;
          entries_are = h.entries_are;
        }

  -- Lists of PFSs

  pub pfs_carried : (t : p.from.Tree) (u : p.to.Tree) (r s : Ref) (pfs : ListedPfs) → p.Like t u r s → (h : IsPfs p.from t r pfs) → (g : IsPfs p.to u s pfs) × p.Matches h.tree g.tree
  pfs_carried t u r s pfs like h =
      let same = f.like t u r s like in
      let g = f.inode t u r s h.inode h.tree like h.read in
      let alike : SameInode h.inode g.0 = g.3 in (
        record {
          kind_is = same.kind ∙ h.kind_is;
          inode = g.0;
          tree = g.1;
          read = g.2;
          pfs_is = alike.kind ∙ h.pfs_is;
          numbered = alike.number ∙ h.numbered ∙ sym same.key;
          id_is = h.id_is ∙ sym same.key;
          name_is = h.name_is ∙ sym alike.name;
          next_is = h.next_is ∙ sym alike.next;
        },
        g.4,
      )

  -- the list, beside the leaves of the tree that matches
  pub listed_beside : (t : p.from.Tree) (u : p.to.Tree) (next : ℕ) (pfss : List ListedPfs) → p.Matches t u → (h : IsPfsList p.from t next pfss)
      → (g : IsPfsList p.to u next pfss) × OneByOne (p.Like t u) h.leaves g.leaves
  listed_beside t u next pfss sim h =
      let g = leaves_carried t u h.leaves sim h.has in (
        record {
          leaves = g.0;
          has = g.1;
          each = through (p.Like t u) (IsPfs p.from t) (IsPfs p.to u) (λ r s x like k. (pfs_carried t u r s x like k).0) h.leaves g.0 pfss g.2 h.each;
          good = h.good;
          differ = h.differ;
          below = h.below;
        },
        g.2,
      )

  pub pfs_list_carried : (t : p.from.Tree) (u : p.to.Tree) (next : ℕ) (pfss : List ListedPfs) → p.Matches t u → IsPfsList p.from t next pfss → IsPfsList p.to u next pfss
  pfs_list_carried t u next pfss sim h = (listed_beside t u next pfss sim h).0
