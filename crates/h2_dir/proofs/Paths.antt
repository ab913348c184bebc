-- Loaded paths: where they lead, and that they stay where nothing changes.
use Rattle.std.proofs.Common.{◌≡◌, ℕ, ◌∙◌, sym, refl, ap, true, false, List, Some, Option, subst, slice_get, get_or}
use Rattle.std.specs.Prelude.{All}
use Rattle.std.proofs.lemmas.Option.{slice_get-get_or, same_Some}
use Rattle.h2_ref.specs.declared.reference.Ref.{Ref}
use Rattle.h2_ref.specs.Ref.{IsValid}
use Rattle.h2_set.specs.Ranges.{is_indirect}
use Rattle.h2_set.specs.RefSet.{RefSet}
use Rattle.h2_set.specs.Forest.{Forest, loaded, IsSound, Fits, Reaches, nowhere, here, below}
use Rattle.h2_set.specs.Calls.{Unchanged}
use Rattle.h2_set.specs.StayLaws.{stands_below, Reaches-walks, Unchanged-walks}
use Rattle.h2_tree.specs.Changes.{Lists, RangeUnloaded, missing, deeper}
use Rattle.h2_inode.specs.declared.kind.InodeKind.{InodeKind}
use Rattle.h2_inode.specs.declared.inode.Body.{Body}
use Rattle.h2_inode.specs.declared.inode.Body.TheVariants.{Refs, Bytes}
use Rattle.h2_inode.specs.declared.inode.Inode.{Inode}
use Rattle.h2_inode.specs.Nodes.{Fields, HasInode, MayHave}

-- a leaf that a path leads to stands in a node of its tree
pub record Hangs (f : Forest) (at : ℕ) (leaf : Ref) : Type 0 where
  pub node : ℕ
  pub stands : f.stands node ≡ true
  pub root : f.root node ≡ f.root at
  pub fits : Fits f node leaf
  pub is_leaf : is_indirect leaf ≡ false

pub hangs : {f : Forest} {key at : ℕ} {o : Option Ref} → IsSound f → f.stands at ≡ true → Reaches f key at o → (leaf : Ref) → o ≡ Some leaf → Hangs f at leaf
hangs sound stands (nowhere miss) leaf e = cc
hangs {f} sound stands (here {at = at} {r = r} i read in_r is_leaf) leaf e =
    let same : r ≡ leaf = same_Some r leaf e in
    record { node = at; stands = stands; root = refl; fits = subst (λ q. Fits f at q) same ((sound.node at stands).fits i r read); is_leaf = subst (λ q. is_indirect q ≡ false) same is_leaf }
hangs {f} sound stands (below {at = at} {c = c} {r = r} i read in_r ind link rest) leaf e =
    let h = hangs sound (stands_below f sound at r.key c stands link) rest leaf e in
    record { node = h.node; stands = h.stands; root = h.root ∙ ((sound.node at stands).child r.key c link).root; fits = h.fits; is_leaf = h.is_leaf }

-- an inode's tree may have it
pub leaf_may : {f : Forest} {holds : ℕ → Option Fields} {key at : ℕ} {i : Inode} {leaf : Ref} → IsSound f → HasInode f holds at i → Reaches f key at (Some leaf) → MayHave i.kind i.body leaf
leaf_may {f} {leaf = leaf} sound is path =
    let there = hangs sound is.stands path leaf refl in
    (is.tree.allows leaf).0 (subst (λ m. f.allows m leaf ≡ true) (there.root ∙ is.root) ((there.fits).allowed there.is_leaf))

may_valid : (kind : InodeKind) (body : Body) (leaf : Ref) → MayHave kind body leaf → IsValid leaf
may_valid kind (Refs s) leaf may = may.1.valid
may_valid kind (Bytes b) leaf may = absurd may

-- and so it is valid
pub leaf_valid : {f : Forest} {holds : ℕ → Option Fields} {key at : ℕ} {i : Inode} {leaf : Ref} → IsSound f → HasInode f holds at i → Reaches f key at (Some leaf) → IsValid leaf
leaf_valid {i = i} {leaf = leaf} sound is path = may_valid i.kind i.body leaf (leaf_may sound is path)

-- the leaves of a list are valid
pub lists_valid : (f : Forest) (holds : ℕ → Option Fields) (at from to : ℕ) (i : Inode) (l : List Ref) → IsSound f → HasInode f holds at i → Lists f at from to l → All IsValid l
lists_valid f holds at from to i l sound is lists k d lt = leaf_valid sound is (lists.each k (get_or l k d) (slice_get-get_or l k d lt)).1

-- where nothing changed, a path was there before
pub reaches_back : {f g : Forest} {key at : ℕ} {o : Option Ref} → IsSound f → Unchanged f g → f.stands at ≡ true → Reaches g key at o → Reaches f key at o
reaches_back sound same stands (nowhere {at = at} miss) = nowhere (λ i r read. miss i r (ap (λ (s : RefSet). slice_get s.refs i) (same.same at stands).set ∙ read))
reaches_back sound same stands (here {at = at} {r = r} i read in_r leaf) = here {r = r} i (ap (λ (s : RefSet). slice_get s.refs i) (sym (same.same at stands).set) ∙ read) in_r leaf
reaches_back {f} sound same stands (below {at = at} {c = c} {r = r} i read in_r ind link rest) =
    let link_too : f.link at r.key ≡ loaded c = sym ((same.same at stands).link r.key) ∙ link in
    below {r = r} i (ap (λ (s : RefSet). slice_get s.refs i) (sym (same.same at stands).set) ∙ read) in_r ind link_too (reaches_back sound same (stands_below f sound at r.key c stands link_too) rest)

unloaded_back : {f g : Forest} {from to at : ℕ} → IsSound f → Unchanged f g → f.stands at ≡ true → RangeUnloaded g from to at → RangeUnloaded f from to at
unloaded_back {f} sound same stands (missing {at = at} {r = r} i read ind touched none) =
    missing {r = r} i (ap (λ (s : RefSet). slice_get s.refs i) (sym (same.same at stands).set) ∙ read) ind touched (λ c link. none c ((same.same at stands).link r.key ∙ link))
unloaded_back {f} sound same stands (deeper {at = at} {c = c} {r = r} i read ind touched link rest) =
    let link_too : f.link at r.key ≡ loaded c = sym ((same.same at stands).link r.key) ∙ link in
    deeper {r = r} i (ap (λ (s : RefSet). slice_get s.refs i) (sym (same.same at stands).set) ∙ read) ind touched link_too (unloaded_back sound same (stands_below f sound at r.key c stands link_too) rest)

-- and so is a list of leaves
pub lists_same : (f g : Forest) (at from to : ℕ) (l : List Ref) → IsSound f → f.stands at ≡ true → Unchanged f g → Lists f at from to l → Lists g at from to l
lists_same f g at from to l sound stands same lists = record {
  rising = lists.rising;
  each = λ i r read. ((lists.each i r read).0, Reaches-walks sound (Unchanged-walks f g same) stands (lists.each i r read).1);
  all = λ key r path between. lists.all key r (reaches_back sound same stands path) between;
  loaded = λ u. lists.loaded (unloaded_back sound same stands u);
}
