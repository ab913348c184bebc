-- Directories and lists of PFSs are read the same whatever bytes blocks of content have; where more of these are told,
-- files have the bytes that they had.
use Rattle.std.specs.Prelude.{◌≡◌, ℕ, List, Some}
use Rattle.std.proofs.Common.{ap, sym, refl, subst}
use Rattle.h2_num.specs.Places.{Places}
use Rattle.h2_ref.specs.declared.reference.Ref.{Ref}
use Rattle.h2_inode.specs.declared.inode.Body.{Body}
use Rattle.h2_inode.specs.declared.inode.Body.TheVariants.{Refs, Bytes}
use Rattle.h2_inode.specs.Access.{HasLeaves}
use Rattle.h2_inode.specs.Contents.{IsContents}
use Rattle.h2_inode.specs.Embedded.{HasBytes}
use Rattle.h2_inode.specs.Directory.{Entries, IsEntry, IsDirectory}
use Rattle.h2_inode.specs.PfsList.{ListedPfs, IsPfs, IsPfsList}
use Rattle.h2_inode.specs.Following.{Passage, Follows}
use Rattle.h2_inode.specs.FollowLaws.{same_inode}
use Rattle.h2_inode.specs.CarryLaws.{contents_carried}
use Rattle.h2_inode.specs.ListLaws.{each_mapped, all_beside}
use Rattle.h2_inode.specs.Loaded.{Tree, View, reading}

module _ (u : View) (C D : Ref → Places → Type 0) where
  leaves_apart : (t : Tree) (l : List Ref) → HasLeaves (reading u C) t l → HasLeaves (reading u D) t l
  leaves_apart t l h = record { read = h.read; ordered = h.ordered }

  module _ (Target : ℕ → ℕ → Type 0) (t : Tree) where
    entry_apart : (r : Ref) (named : List ℕ × ℕ) → IsEntry (reading u C) Target t r named → IsEntry (reading u D) Target t r named
    entry_apart r named h = record {
      kind_is = h.kind_is;
      entry = h.entry;
      entry_is = h.entry_is;
      number_is = h.number_is;
      name_is = h.name_is;
      length_is = h.length_is;
      under = h.under;
      target_fits = h.target_fits;
    }

    pub directory_apart : (size : ℕ) (entries : Entries) → IsDirectory (reading u C) Target t size entries → IsDirectory (reading u D) Target t size entries
    directory_apart size entries h = record {
      leaves = h.leaves;
      has = leaves_apart t h.leaves h.has;
      named = h.named;
      each = each_mapped (IsEntry (reading u C) Target t) (IsEntry (reading u D) Target t) entry_apart h.leaves h.named h.each;
      differ = h.differ;
      counted = h.counted;
      entries_are = h.entries_are;
    }

  pfs_apart : (t : Tree) (r : Ref) (p : ListedPfs) → IsPfs (reading u C) t r p → IsPfs (reading u D) t r p
  pfs_apart t r p h = record {
    kind_is = h.kind_is;
    inode = h.inode;
    tree = h.tree;
    read = h.read;
    pfs_is = h.pfs_is;
    numbered = h.numbered;
    id_is = h.id_is;
    name_is = h.name_is;
    next_is = h.next_is;
  }

  pub pfs_list_apart : (t : Tree) (next : ℕ) (pfss : List ListedPfs) → IsPfsList (reading u C) t next pfss → IsPfsList (reading u D) t next pfss
  pfs_list_apart t next pfss h = record {
    leaves = h.leaves;
    has = leaves_apart t h.leaves h.has;
    each = each_mapped (IsPfs (reading u C) t) (IsPfs (reading u D) t) (pfs_apart t) h.leaves pfss h.each;
    good = h.good;
    differ = h.differ;
    below = h.below;
  }

  -- the reading beside one with other contents
  abbrev pub over_contents : Passage
  over_contents = record { from = reading u C; to = reading u D; Matches = λ t w. w ≡ t; Like = λ t w r s. (w ≡ t) × (s ≡ r) }

  module _ (more : (r : Ref) (b : Places) → C r b → D r b) where
    -- where what was told is told, the second follows the first, so that tables and forests stand for the same too
    pub more_follow : Follows over_contents
    more_follow = record {
      leaves = λ t w l e h. (l, subst (λ x. (reading u D).LeavesOf x l) (sym e) h, all_beside (λ r s. (w ≡ t) × (s ≡ r)) l (λ r at. (e, refl)));
      like = λ t w r s e. record { kind = ap (λ x. x.kind) e.1; key = ap (λ x. x.key) e.1; keybits = ap (λ x. x.keybits) e.1; dirent = ap (λ x. x.dirent) e.1 };
      inode = λ t w r s i c e h.
          (i, c, subst (λ x. (reading u D).InodeOf x s i c) (sym e.0) (subst (λ x. (reading u D).InodeOf t x i c) (sym e.1) h), same_inode i, refl);
      name = λ t w r s n e h. subst (λ x. u.forest.name x ≡ Some n) (sym e.1) h;
      content = λ t w r s x e h. subst (λ y. D y x) (sym e.1) (more r x h);
    }

    pub contents_more : (t : Tree) (size : ℕ) (bytes : List ℕ) → IsContents (reading u C) t size bytes → IsContents (reading u D) t size bytes
    contents_more t size bytes h = contents_carried over_contents more_follow t t size bytes refl h

    pub bytes_more : (t : Tree) (size : ℕ) (body : Body) (bytes : List ℕ) → HasBytes (reading u C) t size body bytes → HasBytes (reading u D) t size body bytes
    bytes_more t size (Refs s) bytes h = contents_more t size bytes h
    bytes_more t size (Bytes body) bytes h = h
