-- Worked values of the reading of loaded nodes: a directory without a reference, and a list of one PFS.
use Rattle.std.specs.Prelude.{◌≡◌, ◌≢◌, ◌<◌, ◌≤◌, ◌^◌, ℕ, [], ◌∷◌, refl}
use Rattle.std.proofs.Common.{arith}
use Rattle.std.specs.FinMap.{empty}
use Rattle.h2_num.specs.Places.{Places}
use Rattle.h2_ref.specs.declared.reference.Kind.TheVariants.{Inode as Inode_kind}
use Rattle.h2_ref.specs.declared.reference.Ref.{Ref}
use Rattle.h2_set.specs.Ranges.{limit}
use Rattle.h2_set.specs.Forest.{LeavesOf}
use Rattle.h2_dirkey.specs.PfsName.{IsPfsName}
use Rattle.h2_inode.specs.declared.kind.InodeKind.TheVariants.{Pfs as Pfs_kind}
use Rattle.h2_inode.specs.declared.inode.Inode.{Inode}
use Rattle.h2_inode.specs.Block.{refs_of_body}
use Rattle.h2_inode.specs.Nodes.{HasInode}
use Rattle.h2_inode.specs.NodeLaws.{no_leaves}
use Rattle.h2_inode.specs.Directory.{IsDirectory}
use Rattle.h2_inode.specs.PfsList.{ListedPfs, IsPfsList}
use Rattle.h2_inode.specs.ListLaws.{all_none, all_cons, pairs_none, pairs_cons}
use Rattle.h2_inode.specs.Loaded.{Tree, at_root, NamesInode, View, reading}

-- a directory without references has no entries
pub empty_directory : (u : View) (Content : Ref → Places → Type 0) (Target : ℕ → ℕ → Type 0) (at : ℕ) (i : Inode) → HasInode u.forest u.holds at i → refs_of_body i.body ≡ []
    → IsDirectory (reading u Content) Target (at_root at) 0 empty
empty_directory u Content Target at i is none = record {
  leaves = [];
  has = record { read = no_leaves u.forest u.holds at i is none; ordered = omega arith };
  named = [];
  each = tt;
  differ = pairs_none (λ x y. x.0 ≢ y.0);
  counted = refl;
  entries_are = refl;
}

-- what is listed of a PFS
abbrev pub listed : ℕ → Inode → ListedPfs
listed key i = record { id = key; name = i.name; next = i.next }

-- one leaf that names the inode of a PFS, be it loaded or told, is a list of one
pub one_pfs : (u : View) (Content : Ref → Places → Type 0) (top next : ℕ) (leaf : Ref) (i : Inode) (t : Tree) → LeavesOf u.forest top (leaf ∷ []) → limit leaf ≤ 2 ^ 64 → leaf.kind ≡ Inode_kind
    → NamesInode u.forest u.holds u.tells (at_root top) leaf i t → i.kind ≡ Pfs_kind → i.number ≡ leaf.key → IsPfsName i.name → leaf.key < next
    → IsPfsList (reading u Content) (at_root top) next (listed leaf.key i ∷ [])
one_pfs u Content top next leaf i t has fits kind names pfs number name less = record {
  leaves = leaf ∷ [];
  has = record { read = has; ordered = (omega arith, fits) };
  each = (
    record { kind_is = kind; inode = i; tree = t; read = names; pfs_is = pfs; numbered = number; id_is = refl; name_is = refl; next_is = refl },
    tt,
  );
  good = all_cons (λ (p : ListedPfs). IsPfsName p.name) (listed leaf.key i) [] name (all_none (λ (p : ListedPfs). IsPfsName p.name));
  differ = pairs_cons (λ (p q : ListedPfs). p.name ≢ q.name) (listed leaf.key i) [] (all_none (λ (q : ListedPfs). i.name ≢ q.name)) (pairs_none (λ (p q : ListedPfs). p.name ≢ q.name));
  below = all_cons (λ (p : ListedPfs). p.id < next) (listed leaf.key i) [] less (all_none (λ (p : ListedPfs). p.id < next));
}
