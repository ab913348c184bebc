-- What trees stand for stays while indirect blocks and inodes are loaded.
use Rattle.std.specs.Prelude.{◌≡◌, ◌<◌, ◌≤◌, ◌+◌, ◌^◌, ℕ, zero, suc, Bool, true, false, List, [], ◌∷◌, length, slice_index_or, Contains, Option, Some, if◌then◌else◌, refl}
use Rattle.std.proofs.Common.{ap, sym, ◌∙◌, arith, inl, inr, subst}
use Rattle.std.proofs.lemmas.Bool.{cases_eq}
use Rattle.std.proofs.lemmas.Bool.Decides.{nat_tests}
use Rattle.std.proofs.lemmas.Nat.{pow_pos}
use Rattle.std.proofs.lemmas.Option.{same_Some}
use Rattle.h2_num.specs.Places.{Places}
use Rattle.h2_ref.specs.declared.reference.Ref.{Ref}
use Rattle.h2_set.specs.Ranges.{Rising, find, holds, limit}
use Rattle.h2_set.specs.Forest.{Forest, LeavesOf, KeepsLeaves, IsSound}
use Rattle.h2_set.specs.Calls.{Walks, Unchanged, ReadiesOnly, Stays, KeepsBeside}
use Rattle.h2_set.specs.LeafLaws.{outside_holds, leaves_rising, reaches_find}
use Rattle.h2_set.specs.StayLaws.{leaves_stay_all, Same-Stays, Unchanged-walks}
use Rattle.h2_inode.specs.declared.inode.Inode.{Inode}
use Rattle.h2_inode.specs.Nodes.{Fields, Told, HasInode, IsInodeLeaf, IsUnloaded, IsAsTold, Seeks, KeepsOthersBeside}
use Rattle.h2_inode.specs.NodeLaws.{named_back, brings_leaves, inode_held}
use Rattle.h2_inode.specs.NamedLaws.{told_on, loaded_on, unloaded_on, brings_fresh, brings_loaded, brings_names, brings_bare}
use Rattle.h2_inode.specs.Contents.{IsContents}
use Rattle.h2_inode.specs.Directory.{Entries, IsDirectory}
use Rattle.h2_inode.specs.PfsList.{ListedPfs, IsPfsList}
use Rattle.h2_inode.specs.Following.{Follows}
use Rattle.h2_inode.specs.CarryLaws.{contents_carried, directory_carried, pfs_list_carried}
use Rattle.h2_inode.specs.FollowLaws.{same_inode}
use Rattle.h2_inode.specs.ListLaws.{all_beside}
use Rattle.h2_inode.specs.Loaded.{Tree, at_root, of_leaves, HasAsLeaves, IsTold, NamesInode, View, view_of, reading, IsSameTree, IsLeafOf, Rereads, HoldsOn, HoldsBut, TellsOn, StandsAlike, as_before, by_load, over_loads}

-- A leaf of a list is found by its key.

holds_own : (r : Ref) → holds r.key r ≡ true
holds_own r = let pos = pow_pos r.keybits in grind (arith, nat_tests, pos)

from_low : (low high : ℕ) (l : List Ref) (k : ℕ) (r : Ref) → Rising low high l → k < length l → low ≤ (slice_index_or l k r).key
from_low low high [] k r h lt = absurd (omega (arith, lt))
from_low low high (q ∷ l) zero r h lt = h.0
from_low low high (q ∷ l) (suc k) r h lt =
    let rest : limit q ≤ (slice_index_or l k r).key = from_low (limit q) high l k r h.1 (omega (arith, lt)) in
    let first : low ≤ q.key = h.0 in
    let pos = pow_pos q.keybits in
    omega (arith, rest, first, pos)

pub find_at : (low high : ℕ) (l : List Ref) (k : ℕ) (r : Ref) → Rising low high l → k < length l → slice_index_or l k r ≡ r → find r.key l ≡ Some r
find_at low high [] k r h lt e = absurd (omega (arith, lt))
find_at low high (q ∷ l) zero r h lt e = subst (λ (x : Ref). find x.key (q ∷ l) ≡ Some x) e (ap (λ (b : Bool). if b then Some q else find q.key l) (holds_own q))
find_at low high (q ∷ l) (suc k) r h lt e =
    let past : limit q ≤ r.key = subst (λ (x : Ref). limit q ≤ x.key) e (from_low (limit q) high l k r h.1 (omega (arith, lt))) in
    ap (λ (b : Bool). if b then Some q else find r.key l) (outside_holds r.key q (inr past)) ∙ find_at (limit q) high l k r h.1 (omega (arith, lt)) e

-- a leaf of a tree is the one to which the path of its key leads
pub one_leaf : (f : Forest) (top : ℕ) (leaf r : Ref) → IsSound f → IsInodeLeaf f top leaf → (l : List Ref) → LeavesOf f top l → Contains l r → r.key ≡ leaf.key → r ≡ leaf
one_leaf f top leaf r sound is l h at key =
    let rising = leaves_rising h (f.low top) (f.low top + 2 ^ f.bits top) (sound.node top is.stands).inside in
    let found : find r.key l ≡ Some r = find_at (f.low top) (f.low top + 2 ^ f.bits top) l at.0 r rising at.1 at.2 in
    let way : Some leaf ≡ find leaf.key l = reaches_find sound is.path is.stands l h in
    sym (same_Some leaf r (way ∙ ap (λ k. find k l) (sym key) ∙ found))

-- A view that rereads another follows it.

module _ (u v : View) (h : Rereads u v) where
  leaves_reread : (t w : Tree) (l : List Ref) → IsSameTree u v t w → HasAsLeaves u.forest t l → HasAsLeaves v.forest w l
  leaves_reread (at_root m) (at_root n) l same has = subst (λ k. LeavesOf v.forest k l) (sym same.0) (h.leaves m same.1 l has)
  leaves_reread (at_root m) (of_leaves k) l same has = absurd same
  leaves_reread (of_leaves k) (at_root n) l same has = subst (λ x. LeavesOf v.forest n x) (sym has) same.2
  leaves_reread (of_leaves k) (of_leaves m) l same has = has ∙ sym same

  inode_reread : (t w : Tree) (r : Ref) (i : Inode) (c : Tree) → IsSameTree u v t w → IsLeafOf u t r → NamesInode u.forest u.holds u.tells t r i c
      → (d : Tree) × NamesInode v.forest v.holds v.tells w r i d × IsSameTree u v c d
  inode_reread (at_root m) (at_root n) r i c same leaf names =
      let g = h.inode m r i c same.1 leaf names in
      (g.0, subst (λ k. NamesInode v.forest v.holds v.tells (at_root k) r i g.0) (sym same.0) g.1, g.2)
  inode_reread (at_root m) (of_leaves k) r i c same leaf names = absurd same
  inode_reread (of_leaves k) (at_root n) r i c same leaf names =
      let g = told_on u v h.told r i c names in
      (c, inr (h.bare n r.key same.0 same.1, g.0), g.1)
  inode_reread (of_leaves k) (of_leaves m) r i c same leaf names =
      let g = told_on u v h.told r i c names in
      (c, g.0, g.1)

  pub rereads_follow : (Content : Ref → Places → Type 0) → Follows (over_loads u v Content)
  rereads_follow Content = record {
    leaves = λ t w l same has. (l, leaves_reread t w l same has, all_beside (λ r s. (s ≡ r) × IsLeafOf u t r × IsSameTree u v t w) l (λ r at. (refl, (l, has, at), same)));
    like = λ t w r s e. record { kind = ap (λ x. x.kind) e.0; key = ap (λ x. x.key) e.0; keybits = ap (λ x. x.keybits) e.0; dirent = ap (λ x. x.dirent) e.0 };
    inode = λ t w r s i c e names.
        let g = inode_reread t w r i c e.2 e.1 names in
        (i, g.0, subst (λ x. NamesInode v.forest v.holds v.tells w x i g.0) (sym e.0) g.1, same_inode i, g.2);
    name = λ t w r s n e is. subst (λ x. v.forest.name x ≡ Some n) (sym e.0) (h.name r n is);
    content = λ t w r s x e is. subst (λ y. Content y x) (sym e.0) is;
  }

-- Calls that load, or change nothing that is read

module _ (u v : View) (sound : IsSound u.forest) (after : IsSound v.forest) (stays : (m : ℕ) → u.forest.stands m ≡ true → Stays u.forest v.forest m)
    (inodes : (m : ℕ) (i : Inode) → HasInode u.forest u.holds m i → HasInode v.forest v.holds m i) (told : TellsOn u v) where
  module _ (roots : (m : ℕ) → v.forest.stands m ≡ true → v.forest.root m ≡ m → u.forest.stands m ≡ true) (name : (r : Ref) → v.forest.name r ≡ u.forest.name r) where
    none_came : (top key : ℕ) → u.forest.stands top ≡ true → IsUnloaded u.forest top key → IsUnloaded v.forest top key
    none_came top key stands none c is =
        let stood = roots c is.stands is.root in
        none c (named_back u.forest v.forest top key c (stays top stands).place stood (stays c stood).place is)

    inode_on : (top : ℕ) (r : Ref) (i : Inode) (t : Tree) → u.forest.stands top ≡ true → NamesInode u.forest u.holds u.tells (at_root top) r i t
        → (w : Tree) × NamesInode v.forest v.holds v.tells (at_root top) r i w × IsSameTree u v t w
    inode_on top r i t stands (inl is) = loaded_on u v top r i t (stays top stands).place is (stays is.0 is.1.stands).place (inodes is.0 i is.2)
    inode_on top r i t stands (inr is) = unloaded_on u v told top r i t (none_came top r.key stands is.0) is.1

    -- where no root came, all is read as before
    pub rootless_reread : Rereads u v
    rootless_reread = record {
      stands = λ m stands. (stays m stands).place.stands;
      leaves = leaves_stay_all u.forest v.forest sound stays;
      inode = λ top r i t stands leaf is. inode_on top r i t stands is;
      bare = λ top key gone stands c is.
          let own = after.owner c top key is.stands ((is.belongs top key).1 (inl (refl, refl))) in
          let clash : true ≡ false = sym (roots top own.stands own.root) ∙ gone in
          absurd (cc);
      told = told;
      name = λ r n e. name r ∙ e;
    }

-- what calls keep beside the sets of roots is what roots hold

pub beside_holds : {B : Type 0} (fields : B → Option Fields) (f g : Forest) (old new : ℕ → B) (tells later : Ref → Option Told) → KeepsBeside f g old new → HoldsOn (view_of fields f old tells) (view_of fields g new later)
beside_holds fields f g old new tells later h = λ m stood stands. ap fields (h.same m stood stands)

pub others_hold : {B : Type 0} (fields : B → Option Fields) (f g : Forest) (at : ℕ) (old new : ℕ → B) (tells later : Ref → Option Told) → KeepsOthersBeside f g at old new
    → HoldsBut at (view_of fields f old tells) (view_of fields g new later)
others_hold fields f g at old new tells later h = λ m ne stood stands. ap fields (h.same m ne stood stands)

-- loads of indirect blocks alone
pub walks_reread : (u v : View) → IsSound u.forest → Walks u.forest v.forest → HoldsOn u v → TellsOn u v → Rereads u v
walks_reread u v sound h holds told =
    rootless_reread u v sound h.sound h.stays
    (λ m i is. inode_held u.forest v.forest u.holds v.holds m i (h.stays m is.stands).place (h.fixed.leaf_bits m is.stands (h.stays m is.stands).place.stands)
    (λ r. h.fixed.allows m r is.stands (h.stays m is.stands).place.stands) (h.sets m is.stands) (holds m is.stands (h.stays m is.stands).place.stands) is)
    told h.roots h.fixed.name

-- a load that failed
pub unchanged_reread : (u v : View) → IsSound u.forest → Unchanged u.forest v.forest → HoldsOn u v → TellsOn u v → Rereads u v
unchanged_reread u v sound h holds told = walks_reread u v sound (Unchanged-walks u.forest v.forest h) holds told

-- spare nodes that were made ready
pub readies_reread : (u v : View) → IsSound u.forest → ReadiesOnly u.forest v.forest → HoldsOn u v → TellsOn u v → Rereads u v
readies_reread u v sound h holds told =
    rootless_reread u v sound h.sound (λ m stands. Same-Stays u.forest v.forest m (h.same m stands))
    (λ m i is. inode_held u.forest v.forest u.holds v.holds m i (h.same m is.stands).place (h.fixed.leaf_bits m is.stands (h.same m is.stands).place.stands)
    (λ r. h.fixed.allows m r is.stands (h.same m is.stands).place.stands) (h.same m is.stands).set (holds m is.stands (h.same m is.stands).place.stands) is)
    told (λ m stands root. h.none_new m stands) h.fixed.name

-- The load of an inode

module _ (u v : View) (top c : ℕ) (leaf : Ref) (sound : IsSound u.forest) (is : IsInodeLeaf u.forest top leaf) (h : Seeks u.forest v.forest top leaf.key c) (holds : HoldsOn u v) (told : TellsOn u v)
    (as_told : (x : Told) → u.forest.stands c ≡ false → u.tells leaf ≡ Some x → IsAsTold v.forest v.holds c x) where
  -- the inode of the leaf itself is as it was told
  this_one : (i : Inode) (t : Tree) → IsUnloaded u.forest top leaf.key → IsTold u.tells leaf i t
      → (w : Tree) × NamesInode v.forest v.holds v.tells (at_root top) leaf i w × IsSameTree u v t w
  this_one i t none x =
      let gone = brings_fresh u v top leaf.key c sound h.brings h.only holds told top leaf.key c is.stands none h.named in
      let now = as_told x.0 gone x.1 in (
        at_root c,
        inl (c, h.named, subst (λ j. HasInode v.forest v.holds c j) (sym x.2) now.inode, refl),
        subst (λ z. IsSameTree u v z (at_root c)) (sym x.3) (gone, h.named.stands, now.leaves),
      )

  inode_sought : (t : ℕ) (r : Ref) (i : Inode) (tree : Tree) → u.forest.stands t ≡ true → IsLeafOf u (at_root t) r → NamesInode u.forest u.holds u.tells (at_root t) r i tree
      → (w : Tree) × NamesInode v.forest v.holds v.tells (at_root t) r i w × IsSameTree u v tree w
  inode_sought t r i tree stands within (inl x) = brings_loaded u v top leaf.key c sound h.brings h.only holds told t r i tree stands x
  inode_sought t r i tree stands within (inr x) = elim (cases_eq t top) as (λ _. (w : Tree) × NamesInode v.forest v.holds v.tells (at_root t) r i w × IsSameTree u v tree w) [
    | inr ne ↦ brings_names u v top leaf.key c sound h.brings h.only holds told t r i tree stands (inr x) (λ same. ne same.0)
    | inl e ↦ elim (cases_eq r.key leaf.key) as (λ _. (w : Tree) × NamesInode v.forest v.holds v.tells (at_root t) r i w × IsSameTree u v tree w) [
      | inr ne ↦ brings_names u v top leaf.key c sound h.brings h.only holds told t r i tree stands (inr x) (λ same. ne same.1)
      | inl key ↦
          let at_top : IsLeafOf u (at_root top) r = subst (λ z. IsLeafOf u (at_root z) r) e within in
          let same : r ≡ leaf = one_leaf u.forest top leaf r sound is at_top.0 at_top.1 at_top.2 key in
          let none : IsUnloaded u.forest top leaf.key = subst (λ z. IsUnloaded u.forest z leaf.key) e (subst (λ k. IsUnloaded u.forest t k) key x.0) in
          subst (λ z. (w : Tree) × NamesInode v.forest v.holds v.tells (at_root z) r i w × IsSameTree u v tree w) (sym e)
          (subst (λ z. (w : Tree) × NamesInode v.forest v.holds v.tells (at_root top) z i w × IsSameTree u v tree w) (sym same)
          (this_one i tree none (subst (λ z. IsTold u.tells z i tree) same x.1)))
    ]
  ]

  pub seeks_reread : Rereads u v
  seeks_reread = record {
    stands = λ m stands. (h.brings.same m stands).place.stands;
    leaves = brings_leaves u.forest v.forest c sound h.brings;
    inode = inode_sought;
    bare = brings_bare u v top leaf.key c sound h.brings h.only holds told;
    told = told;
    name = λ r n e. h.brings.name r ∙ e;
  }

-- Loads one after the other

pub alike_one : {u v : View} → Rereads u v → StandsAlike u v
alike_one h = by_load h as_before

pub alike_trans : {u v w : View} → StandsAlike u v → StandsAlike v w → StandsAlike u w
alike_trans as_before b = b
alike_trans (by_load h a) b = by_load h (alike_trans a b)

-- roots that stood stand
pub alike_stands : {u v : View} → StandsAlike u v → (m : ℕ) → u.forest.stands m ≡ true → v.forest.stands m ≡ true
alike_stands as_before m stands = stands
alike_stands (by_load h a) m stands = alike_stands a m (h.stands m stands)

-- with the leaves that were known
pub alike_leaves : {u v : View} → StandsAlike u v → (m : ℕ) → u.forest.stands m ≡ true → KeepsLeaves u.forest v.forest m
alike_leaves as_before m stands = λ l has. has
alike_leaves (by_load h a) m stands = λ l has. alike_leaves a m (h.stands m stands) l (h.leaves m stands l has)

-- the tree of a root stands for the same bytes of a file, the same entries, and the same list of PFSs

pub alike_contents : {u v : View} (Content : Ref → Places → Type 0) → StandsAlike u v → (at size : ℕ) (bytes : List ℕ) → u.forest.stands at ≡ true
    → IsContents (reading u Content) (at_root at) size bytes → IsContents (reading v Content) (at_root at) size bytes
alike_contents Content as_before at size bytes stands is = is
alike_contents {u} Content (by_load {v = w} h a) at size bytes stands is =
    alike_contents Content a at size bytes (h.stands at stands) (contents_carried (over_loads u w Content) (rereads_follow u w h Content) (at_root at) (at_root at) size bytes (refl, stands) is)

pub alike_directory : {u v : View} (Content : Ref → Places → Type 0) (Target : ℕ → ℕ → Type 0) → StandsAlike u v → (at size : ℕ) (entries : Entries) → u.forest.stands at ≡ true
    → IsDirectory (reading u Content) Target (at_root at) size entries → IsDirectory (reading v Content) Target (at_root at) size entries
alike_directory Content Target as_before at size entries stands is = is
alike_directory {u} Content Target (by_load {v = w} h a) at size entries stands is =
    alike_directory Content Target a at size entries (h.stands at stands)
    (directory_carried (over_loads u w Content) (rereads_follow u w h Content) Target Target (λ target number x. x) (at_root at) (at_root at) size entries (refl, stands) is)

pub alike_pfs_list : {u v : View} (Content : Ref → Places → Type 0) → StandsAlike u v → (at next : ℕ) (pfss : List ListedPfs) → u.forest.stands at ≡ true
    → IsPfsList (reading u Content) (at_root at) next pfss → IsPfsList (reading v Content) (at_root at) next pfss
alike_pfs_list Content as_before at next pfss stands is = is
alike_pfs_list {u} Content (by_load {v = w} h a) at next pfss stands is =
    alike_pfs_list Content a at next pfss (h.stands at stands) (pfs_list_carried (over_loads u w Content) (rereads_follow u w h Content) (at_root at) (at_root at) next pfss (refl, stands) is)
