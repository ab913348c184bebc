-- The list of PFSs with one more.
use Rattle.std.proofs.Common.{◌≡◌, ℕ, ◌<◌, ◌≤◌, Bool, true, false, cond, arith, refl, sym, ◌∙◌, ap, subst, List, [], ◌∷◌, Option, Some, None}
use Rattle.std.specs.Prelude.{◌≢◌, nat_lt, nat_eq, All}
use Rattle.std.specs.Cmp.Lexicographic.{pointwise}
use Rattle.std.proofs.lemmas.Slice.Eq.{bytes_eq-Decides}
use Rattle.std.proofs.lemmas.Option.{none-some}
use Rattle.h2_dirkey.specs.PfsName.{IsPfsName}
use Rattle.h2_ref.specs.declared.reference.Kind.TheVariants.{Inode as Inode_kind}
use Rattle.h2_ref.specs.declared.reference.Ref.{Ref}
use Rattle.h2_set.specs.Ranges.{put}
use Rattle.h2_set.specs.Forest.{Forest, IsSound}
use Rattle.h2_set.specs.Calls.{InPlace, Renews, KeepsBeside}
use Rattle.h2_set.specs.StayLaws.{InPlace-trans}
use Rattle.h2_set.specs.ChangeLaws.{Same-Keeps}
use Rattle.h2_set.specs.RenewLaws.{Keeps-Renews, Renews-trans}
use Rattle.h2_set.specs.StayLaws.{Readies-leaves}
use Rattle.h2_inode.specs.declared.kind.InodeKind.{InodeKind}
use Rattle.h2_inode.specs.declared.kind.InodeKind.TheVariants.{Pfs as Pfs_kind}
use Rattle.h2_inode.specs.declared.inode.Inode.{Inode}
use Rattle.h2_inode.specs.Head.{IsNameOf}
use Rattle.h2_inode.specs.Nodes.{Fields, Told, held_by, IsPlantable}
use Rattle.h2_inode.specs.NodeLaws.{brings_leaves}
use Rattle.h2_inode.specs.Access.{OneByOne}
use Rattle.h2_inode.specs.Loaded.{loaded_nodes, at_root, no_content}
use Rattle.h2_inode.specs.PfsList.{ListedPfs, IsPfs}
use Rattle.h2_pfs.specs.Listing.{HasPfss, id_of, put_pfs}
use Rattle.h2_pfs.specs.Meets.{Meets}
use Rattle.h2_pfs.specs.Addition.{pfs_of, Founds}
use Rattle.h2_pfs.proofs.Renewed.{IsLoadedPfs, SameRules, listed_pfs, renewed_pfs, other_tree}
use Rattle.h2_pfs.proofs.Members.{all_carried}
use Rattle.h2_pfs.proofs.Dropped.{all_head, all_tail, all_more, pairs_head, pairs_tail, pairs_more, Differ}
use Rattle.h2_pfs.proofs.Gone.{met_loaded, tree_rising}

-- one more, one by one
pub each_put : (P Q : Ref → ListedPfs → Type 0) (leaf : Ref) (p : ListedPfs) (rs : List Ref) (ps : List ListedPfs) → p.id ≡ leaf.key → Q leaf p → ((r : Ref) (q : ListedPfs) → P r q → q.id ≡ r.key) → ((r : Ref) (q : ListedPfs) → P r q → Q r q) → OneByOne P rs ps → OneByOne Q rs ps → OneByOne Q (put leaf rs) (put_pfs p ps)
each_put P Q leaf p [] [] id here ids step all others = (here, tt)
each_put P Q leaf p [] (q ∷ qs) id here ids step all others = absurd all
each_put P Q leaf p (r ∷ rs) [] id here ids step all others = absurd all
each_put P Q leaf p (r ∷ rs) (q ∷ qs) id here ids step all others =
    decide (nat_lt leaf.key r.key) (nat_lt r.key leaf.key) refl refl (each_put P Q leaf p rs qs id here ids step all.1 others.1)
  where
    same : q.id ≡ r.key
    same = ids r q all.0

    decide : (a b : Bool) → nat_lt leaf.key r.key ≡ a → nat_lt r.key leaf.key ≡ b → OneByOne Q (put leaf rs) (put_pfs p qs) → OneByOne Q (put leaf (r ∷ rs)) (put_pfs p (q ∷ qs))
    decide true b e e2 rest =
        let e' : nat_lt p.id q.id ≡ true = ap (λ z. nat_lt z q.id) id ∙ ap (λ z. nat_lt leaf.key z) same ∙ e in
        rw (e, e') (here, others)
    decide false true e e2 rest =
        let e' : nat_lt p.id q.id ≡ false = ap (λ z. nat_lt z q.id) id ∙ ap (λ z. nat_lt leaf.key z) same ∙ e in
        let f' : nat_lt q.id p.id ≡ true = ap (λ z. nat_lt z p.id) same ∙ ap (λ z. nat_lt r.key z) id ∙ e2 in
        rw (e, e', e2, f') (others.0, rest)
    decide false false e e2 rest =
        let e' : nat_lt p.id q.id ≡ false = ap (λ z. nat_lt z q.id) id ∙ ap (λ z. nat_lt leaf.key z) same ∙ e in
        let f' : nat_lt q.id p.id ≡ false = ap (λ z. nat_lt z p.id) same ∙ ap (λ z. nat_lt r.key z) id ∙ e2 in
        rw (e, e', e2, f') (here, others.1)

pub all_put : (P : ListedPfs → Type 0) (p : ListedPfs) (ps : List ListedPfs) → P p → All P ps → All P (put_pfs p ps)
all_put P p [] here all = all_more P p [] here all
all_put P p (q ∷ qs) here all = decide (nat_lt p.id q.id) (nat_lt q.id p.id) refl refl (all_put P p qs here (all_tail P q qs all))
  where
    decide : (a b : Bool) → nat_lt p.id q.id ≡ a → nat_lt q.id p.id ≡ b → All P (put_pfs p qs) → All P (put_pfs p (q ∷ qs))
    decide true b e e2 rest = rw e (all_more P p (q ∷ qs) here all)
    decide false true e e2 rest = rw (e, e2) (all_more P q (put_pfs p qs) (all_head P q qs all) rest)
    decide false false e e2 rest = rw (e, e2) (all_more P p qs here (all_tail P q qs all))

-- none of them has the name
abbrev NamedOtherwise : ListedPfs → List ListedPfs → Type 0
NamedOtherwise p ps = All (λ (q : ListedPfs). p.name ≢ q.name) ps

pub pairs_put : (p : ListedPfs) (ps : List ListedPfs) → NamedOtherwise p ps → Differ ps → Differ (put_pfs p ps)
pairs_put p [] none all = pairs_more p [] none all
pairs_put p (q ∷ qs) none all = decide (nat_lt p.id q.id) (nat_lt q.id p.id) refl refl (pairs_put p qs (all_tail (λ (x : ListedPfs). p.name ≢ x.name) q qs none) (pairs_tail q qs all))
  where
    differs : q.name ≢ p.name
    differs e = all_head (λ (x : ListedPfs). p.name ≢ x.name) q qs none (sym e)

    decide : (a b : Bool) → nat_lt p.id q.id ≡ a → nat_lt q.id p.id ≡ b → Differ (put_pfs p qs) → Differ (put_pfs p (q ∷ qs))
    decide true b e e2 rest = rw e (pairs_more p (q ∷ qs) none all)
    decide false true e e2 rest = rw (e, e2) (pairs_more q (put_pfs p qs) (all_put (λ (x : ListedPfs). q.name ≢ x.name) p qs differs (pairs_head q qs all)) rest)
    decide false false e e2 rest = rw (e, e2) (pairs_more p qs (all_tail (λ (x : ListedPfs). p.name ≢ x.name) q qs none) (pairs_tail q qs all))

pub absent_named : (p : ListedPfs) (ps : List ListedPfs) → id_of p.name ps ≡ None → NamedOtherwise p ps
absent_named p [] absent = λ k d lt. absurd (omega (arith, lt))
absent_named p (q ∷ qs) absent = decide (pointwise nat_eq q.name p.name) refl absent (λ it. absent_named p qs it)
  where
    decide : (b : Bool) → pointwise nat_eq q.name p.name ≡ b → cond b (Some q.id) (id_of p.name qs) ≡ None → (id_of p.name qs ≡ None → NamedOtherwise p qs) → NamedOtherwise p (q ∷ qs)
    decide true e it rest = absurd (none-some q.id (sym it))
    decide false e it rest = all_more (λ (x : ListedPfs). p.name ≢ x.name) q qs (λ same.
        let equal : pointwise nat_eq q.name p.name ≡ true = (bytes_eq-Decides q.name p.name).1 (sym same) in
        let clash : true ≡ false = sym equal ∙ e in
        (cc)) (rest it)

-- a root that was renewed on the way
pub steps_renew : (f g : Forest) (new : ℕ → Option Fields) (top : ℕ) (leaf : Ref) (inode : Inode) (c : ℕ) → Founds f g new top leaf inode → f.stands c ≡ true → (f.root c ≡ f.root top → ⊥) → f.stands top ≡ true → Renews f g c
steps_renew f g new top leaf inode c it stands other stands_top =
    let first = it.readies.same c stands in
    let above = (it.readies.same top stands_top).place in
    let second = it.inserts.above c first.place.stands (λ e. other (sym first.place.root ∙ e ∙ above.root)) in
    let third = it.plants.brings.same c second.place.stands in
    Renews-trans f it.put g c (Renews-trans f it.ready it.put c (Keeps-Renews f it.ready c (Same-Keeps f it.ready c first)) second) (Keeps-Renews it.put g c (Same-Keeps it.put g c third))

steps_place : (f g : Forest) (new : ℕ → Option Fields) (top : ℕ) (leaf : Ref) (inode : Inode) → Founds f g new top leaf inode → f.stands top ≡ true → InPlace f g top
steps_place f g new top leaf inode it stands =
    let first = (it.readies.same top stands).place in
    let second = it.inserts.place in
    let third = (it.plants.brings.same top second.stands).place in
    InPlace-trans f it.put g top (InPlace-trans f it.ready it.put top first second) third

pub steps_rules : (f g : Forest) (new : ℕ → Option Fields) (top : ℕ) (leaf : Ref) (inode : Inode) (c : ℕ) → Founds f g new top leaf inode → f.stands c ≡ true → SameRules f g c
steps_rules f g new top leaf inode c it stands =
    let first = (it.readies.same c stands).place.stands in
    let second = (it.inserts.still c first).stands in
    record {
      leaf_bits = it.plants.brings.leaf_bits c second ∙ it.inserts.fixed.leaf_bits c first second ∙ it.readies.fixed.leaf_bits c stands first;
      allows = λ r. it.plants.brings.allows c r second ∙ it.inserts.fixed.allows c r first second ∙ it.readies.fixed.allows c r stands first;
    }

pfs_name : (kind : InodeKind) (name : List ℕ) → kind ≡ Pfs_kind → IsNameOf kind name → IsPfsName name
pfs_name kind name is fits = subst (λ k. IsNameOf k name) is fits

-- the tree stands for the list with one more PFS
pub added : {B : Type 0} (fields : B → Option Fields) (f g : Forest) (old new : ℕ → B) (was now : Ref → Option Told) (top next after : ℕ) (leaf : Ref) (inode : Inode) (known met : List ListedPfs) → IsSound f → f.stands top ≡ true → f.root top ≡ top → leaf.kind ≡ Inode_kind → inode.kind ≡ Pfs_kind → inode.number ≡ leaf.key → IsPlantable inode → KeepsBeside f g old new → Meets f (held_by fields old) top met → Founds f g (held_by fields new) top leaf inode → id_of inode.name known ≡ None → next ≤ after → inode.number < after → HasPfss f (held_by fields old) was top next known → HasPfss g (held_by fields new) now top after (put_pfs (pfs_of inode) known)
added fields f g old new was now top next after leaf inode known met sound stands root kind pfs number plantable beside meets it absent le below has =
    let l = has.leaves in
    let p = pfs_of inode in
    let sound_g = it.plants.brings.sound in
    let all = met_loaded f (held_by fields old) was top next known met sound stands meets has in
    let place = steps_place f g (held_by fields new) top leaf inode it stands in
    let Old = IsLoadedPfs f (held_by fields old) top in
    let New = IsPfs (loaded_nodes g (held_by fields new) now no_content) (at_root top) in
    let carry = λ (r : Ref) (q : ListedPfs) (is : IsLoadedPfs f (held_by fields old) top r q). listed_pfs g (held_by fields new) now top r q (renewed_pfs fields f g old new top r q sound_g beside place is (steps_rules f g (held_by fields new) top leaf inode is.node it is.named.stands) (steps_renew f g (held_by fields new) top leaf inode is.node it is.named.stands (other_tree f (held_by fields old) top r q sound stands root is) stands)) in
    let mine : IsLoadedPfs g (held_by fields new) top leaf p = record {
      kind_is = kind;
      node = it.node;
      named = it.plants.named;
      inode = inode;
      has = it.has;
      pfs_is = pfs;
      numbered = number;
      id_is = number;
      name_is = refl;
      next_is = refl;
    } in
    let others = all_carried Old New l known carry all in
    let ready = (it.readies.same top stands).place.stands in
    let leaves = brings_leaves it.put g it.node it.inserts.sound it.plants.brings top it.inserts.place.stands (put leaf l) (it.inserts.leaves l (Readies-leaves f it.ready sound it.readies top stands l has.has.read)) in
    record {
      leaves = put leaf l;
      has = record { read = leaves; ordered = tree_rising g top (put leaf l) sound_g place.stands leaves };
      each = each_put Old New leaf p l known number (listed_pfs g (held_by fields new) now top leaf p mine) (λ r q is. is.id_is) carry all others;
      good = all_put (λ (q : ListedPfs). IsPfsName q.name) p known (pfs_name inode.kind inode.name pfs plantable.inode.name_fits) has.good;
      differ = pairs_put p known (absent_named p known absent) has.differ;
      below = all_put (λ (q : ListedPfs). q.id < after) p known below (λ k d lt. omega (arith, has.below k d lt, le));
    }
