-- The trees of other roots, where one directory's tree was changed and its inode got another size.
use Rattle.std.specs.Prelude.{◌≡◌, ◌↔◌, ℕ, suc, true, false, List, [], ◌∷◌, Option, Some, slice_get, refl}
use Rattle.std.proofs.Common.{ap, sym, ◌∙◌, inl, inr, subst}
use Rattle.std.proofs.lemmas.Option.{same_Some}
use Rattle.h2_ref.specs.declared.reference.Kind.TheVariants as kinds
use Rattle.h2_ref.specs.declared.reference.Ref.{Ref}
use Rattle.h2_set.specs.Ranges.{is_indirect}
use Rattle.h2_set.specs.RefSet.{RefSet}
use Rattle.h2_set.specs.Forest.{Forest, refs, loaded, IsSound, IsRootOf}
use Rattle.h2_set.specs.Calls.{InPlace, Fixed, Alike, AllRenewed, Renews, Same, Stays}
use Rattle.h2_set.specs.StayLaws.{Alike-refl, InPlace-trans, leaves_stay}
use Rattle.h2_set.specs.ChangeLaws.{same_or_not}
use Rattle.h2_set.specs.RenewLaws.{Keeps-Renews, Renews-trans}
use Rattle.h2_set.specs.PathLaws.{reaches_stay, reaches_renew}
use Rattle.h2_tree.specs.OtherTrees.{KeepsOtherLeaves}
use Rattle.h2_inode.specs.declared.kind.InodeKind.{InodeKind}
use Rattle.h2_inode.specs.declared.kind.InodeKind.TheVariants.{Directory, File, Pfs}
use Rattle.h2_inode.specs.declared.inode.Body.{Body}
use Rattle.h2_inode.specs.declared.inode.Body.TheVariants.{Refs, Bytes}
use Rattle.h2_inode.specs.declared.inode.Inode.{Inode}
use Rattle.h2_inode.specs.Nodes.{Fields, Told, bytes_of, set_of, MayHave, HasInode, IsUnloaded, IsBare, Replaces}
use Rattle.h2_inode.specs.BareLaws.{bare_stays, list_renewed, path_same}
use Rattle.h2_inode.specs.NodeLaws.{named_stays, named_back, inode_held}
use Rattle.h2_inode.specs.Others.{body_with, with_set, KeepsTree, RenewsTree}
use Rattle.h2_dir.proofs.Resized.{others_same}

-- no leaf that the tree of root c may have names an inode
abbrev pub NamesNone : Forest → ℕ → Type 0
NamesNone f c = (r : Ref) → f.allows c r ≡ true → r.kind ≡ kinds.Inode → ⊥

no_inode : (kind : InodeKind) (body : Body) (r : Ref) → (kind ≡ Pfs → ⊥) → MayHave kind body r → r.kind ≡ kinds.Inode → ⊥
no_inode Directory (Refs s) r other may e = let is : r.kind ≡ kinds.Dirent = may.0 in cc
no_inode File (Refs s) r other may e = let is : r.kind ≡ kinds.Content = may.0 in cc
no_inode Pfs (Refs s) r other may e = other refl
no_inode kind (Bytes b) r other may e = absurd may

pub names_none : (f : Forest) (holds : ℕ → Option Fields) (c : ℕ) (i : Inode) → HasInode f holds c i → (i.kind ≡ Pfs → ⊥) → NamesNone f c
names_none f holds c i is other r allowed = no_inode i.kind i.body r other ((is.tree.allows r).0 allowed)

-- references of which none changed
same_list : (rs qs : List Ref) → AllRenewed rs qs → ((i : ℕ) (r : Ref) → slice_get rs i ≡ Some r → slice_get qs i ≡ Some r) → qs ≡ rs
same_list [] [] a h = refl
same_list [] (q ∷ qs) a h = absurd a
same_list (r ∷ rs) [] a h = absurd a
same_list (r ∷ rs) (q ∷ qs) a h =
    let first : q ≡ r = same_Some q r (h 0 r refl) in
    let rest = same_list rs qs a.1 (λ i x read. h (suc i) x read) in
    λ k. first k ∷ rest k

none_left : (qs : List Ref) → AllRenewed [] qs → qs ≡ []
none_left [] a = refl
none_left (q ∷ qs) a = absurd a

bytes_with : (b : Body) (s : RefSet) → bytes_of (body_with b s) ≡ bytes_of b
bytes_with (Refs t) s = refl
bytes_with (Bytes x) s = refl

may_with : (kind : InodeKind) (b : Body) (s : RefSet) (r : Ref) → MayHave kind b r ↔ MayHave kind (body_with b s) r
may_with kind (Refs t) s r = (λ may. may, λ may. may)
may_with kind (Bytes x) s r = (λ may. may, λ may. may)

set_with : (b : Body) (s t : RefSet) → t ≡ set_of b → AllRenewed t.refs s.refs → s.capacity ≡ 4 → s ≡ set_of (body_with b s)
set_with (Refs x) s t is renewed capacity = refl
set_with (Bytes x) s t is renewed capacity =
    let none = none_left s.refs (subst (λ (l : RefSet). AllRenewed l.refs s.refs) is renewed) in
    λ k. record { refs = none k; capacity = capacity k }

module _ (f h g : Forest) (dir : ℕ) (sound : IsSound f) (sound_then : IsSound h) (place : InPlace f h dir) (root : f.root dir ≡ dir)
    (renews : (m : ℕ) → f.stands m ≡ true → (f.root m ≡ dir → ⊥) → Renews f h m)
    (exact : (m i : ℕ) (r : Ref) → f.stands m ≡ true → (f.root m ≡ dir → ⊥) → NamesNone f (f.root m) → slice_get (refs f m) i ≡ Some r → slice_get (refs h m) i ≡ Some r)
    (stood : f.stands dir ≡ true) (exact_leaves : KeepsOtherLeaves f h dir)
    (fixed : Fixed f h) (resizes : Replaces h g dir (h.set dir))
    (roots : (m : ℕ) → g.stands m ≡ true → g.root m ≡ m → f.stands m ≡ true) (placed : (m : ℕ) → f.stands m ≡ true → g.stands m ≡ true → InPlace f g m) where
  same_on : (m : ℕ) → f.stands m ≡ true → (f.root m ≡ dir → ⊥) → Same h g m
  same_on m stands other = others_same h g dir sound_then place.stands (place.root ∙ root) resizes m (renews m stands other).place.stands (λ e. other (ap f.root e ∙ root))

  both : (m : ℕ) → f.stands m ≡ true → (f.root m ≡ dir → ⊥) → Renews f g m
  both m stands other =
      let same = same_on m stands other in
      let alike = subst (λ (s : RefSet). Alike (refs h m) s.refs) (sym same.set) (Alike-refl (refs h m)) in
      Renews-trans f h g m (renews m stands other) (Keeps-Renews h g m (record { place = same.place; alike = alike; link = same.link }))

  refs_same : (m : ℕ) → f.stands m ≡ true → (f.root m ≡ dir → ⊥) → NamesNone f (f.root m) → refs g m ≡ refs f m
  refs_same m stands other none =
      ap (λ (s : RefSet). s.refs) (same_on m stands other).set ∙ same_list (refs f m) (refs h m) (renews m stands other).renewed (λ i r read. exact m i r stands other none read)

  stays : (m : ℕ) → f.stands m ≡ true → (f.root m ≡ dir → ⊥) → NamesNone f (f.root m) → Stays f g m
  stays m stands other none =
      let now = both m stands other in
      record {
        place = now.place;
        alike = subst (λ (l : List Ref). Alike (refs f m) l) (sym (refs_same m stands other none)) (Alike-refl (refs f m));
        near = λ k c e. now.link k ∙ e;
        far = λ k l e. inl (now.link k ∙ e);
      }

  bits_same : (c : ℕ) → f.stands c ≡ true → (f.root c ≡ dir → ⊥) → g.leaf_bits c ≡ f.leaf_bits c
  bits_same c stands other =
      let there = (renews c stands other).place.stands in
      resizes.leaf_bits c there (both c stands other).place.stands ∙ fixed.leaf_bits c stands there

  allows_same : (c : ℕ) (r : Ref) → f.stands c ≡ true → (f.root c ≡ dir → ⊥) → g.allows c r ≡ f.allows c r
  allows_same c r stands other =
      let there = (renews c stands other).place.stands in
      resizes.allows c r there (both c stands other).place.stands (λ e. other (ap f.root e ∙ root)) ∙ fixed.allows c r stands there

  capacity : (c : ℕ) → f.stands c ≡ true → (f.root c ≡ dir → ⊥) → f.root c ≡ c → let s = g.set c in s.capacity ≡ 4
  capacity c stands other own = let now = (both c stands other).place in (resizes.sound.node c now.stands).root_capacity (now.root ∙ own)

  -- leaves name the roots that they named
  named_on : (c : ℕ) → InPlace f g c → (key d : ℕ) → IsRootOf f c key d → IsRootOf g c key d
  named_on c above key d is = named_stays f g c key d above (there d is.stands is.root) is
    where
      there : (d : ℕ) → f.stands d ≡ true → f.root d ≡ d → InPlace f g d
      there d stands own = elim (same_or_not d dir) as (λ _. InPlace f g d) [
        | inl e ↦ subst (λ n. InPlace f g n) (sym e) (InPlace-trans f h g dir place resizes.place)
        | inr ne ↦ (both d stands (λ e. ne (sym own ∙ e))).place
      ]

  -- and no others
  unloaded_on : (c : ℕ) → InPlace f g c → (key : ℕ) → IsUnloaded f c key → IsUnloaded g c key
  unloaded_on c above key none d is =
      let before = roots d is.stands is.root in
      none d (named_back f g c key d above before (placed d before is.stands) is)

  bare_on : (c key : ℕ) → IsBare f c key → IsBare g c key
  bare_on c key bare = bare_stays f g c key roots placed bare

  -- no leaf of another tree changes that doesn't name the directory, or what the directory belongs to
  leaves_same : KeepsOtherLeaves f g dir
  leaves_same m i r stands other read leaf free =
      ap (λ (s : RefSet). slice_get s.refs i) (same_on m stands (λ e. other (e ∙ sym root))).set ∙ exact_leaves m i r stands other read leaf free

  -- a tree whose leaves name no inodes is the same
  pub keeps_tree : (old new : ℕ → Option Fields) (was then : Ref → Option Told) (c : ℕ) (i : Inode) → HasInode f old c i → (i.kind ≡ Pfs → ⊥) → (c ≡ dir → ⊥) → (g.stands c ≡ true → new c ≡ old c) → KeepsTree (record { forest = f; holds = old; tells = was }) (record { forest = g; holds = new; tells = then }) c
  keeps_tree old new was then c i is not ne beside =
      let other : f.root c ≡ dir → ⊥ = λ e. ne (sym is.root ∙ e) in
      let none = names_none f old c i is not in
      let P : ℕ → Type 0 = λ m. (f.stands m ≡ true) × (f.root m ≡ c) in
      let closed : (m k d : ℕ) → P m → f.link m k ≡ loaded d → P d = λ m k d p link. let child = (sound.node m p.0).child k d link in (child.stands, child.root ∙ p.1) in
      let stay : (m : ℕ) → P m → Stays f g m = λ m p. stays m p.0 (λ e. ne (sym p.1 ∙ e)) (subst (λ n. NamesNone f n) (sym p.1) none) in
      let now = both c is.stands other in
      let refs_now : refs g c ≡ refs f c = refs_same c is.stands other (subst (λ n. NamesNone f n) (sym is.root) none) in
      let capacity_now = capacity c is.stands other is.root ∙ sym ((sound.node c is.stands).root_capacity is.root) in
      let set : g.set c ≡ f.set c = λ k. record { refs = refs_now k; capacity = capacity_now k } in
      record {
        place = now.place;
        inode = λ j has. inode_held f g old new c j now.place (bits_same c is.stands other) (λ r. allows_same c r is.stands other) set (beside now.place.stands) has;
        leaves = λ l leaves. leaves_stay f g P closed stay (is.stands, is.root) leaves (refs g c) (stay c (is.stands, is.root)).alike;
        paths = λ key o path. reaches_stay f g P closed stay (is.stands, is.root) path;
        named = named_on c now.place;
        unloaded = unloaded_on c now.place;
        bare = bare_on c;
      }

  inode_renewed : (old new : ℕ → Option Fields) (c : ℕ) (i : Inode) → (f.root c ≡ dir → ⊥) → new c ≡ old c → HasInode f old c i → HasInode g new c (with_set i (g.set c))
  inode_renewed old new c i other beside is =
      let now = both c is.stands other in
      record {
        stands = now.place.stands;
        root = now.place.root ∙ is.root;
        tree = record {
          low = now.place.low ∙ is.tree.low;
          bits = now.place.bits ∙ is.tree.bits;
          leaf_bits = bits_same c is.stands other ∙ is.tree.leaf_bits;
          allows = λ r. let may = may_with i.kind i.body (g.set c) r in let same = allows_same c r is.stands other in (λ e. may.0 ((is.tree.allows r).0 (sym same ∙ e)), λ m. same ∙ (is.tree.allows r).1 (may.1 m));
        };
        fields = beside ∙ is.fields ∙ ap Some (λ k. record { kind = i.kind; number = i.number; size = i.size; links = i.links; next = i.next; name = i.name; bytes = sym (bytes_with i.body (g.set c)) k });
        set = set_with i.body (g.set c) (f.set c) is.set now.renewed (capacity c is.stands other is.root);
      }

  -- any other is the same, but for where the blocks of inodes lie
  pub renews_tree : (old new : ℕ → Option Fields) (was then : Ref → Option Told) (c : ℕ) → f.stands c ≡ true → f.root c ≡ c → (c ≡ dir → ⊥) → (g.stands c ≡ true → new c ≡ old c) → RenewsTree (record { forest = f; holds = old; tells = was }) (record { forest = g; holds = new; tells = then }) c
  renews_tree old new was then c stands own ne beside =
      let other : f.root c ≡ dir → ⊥ = λ e. ne (sym own ∙ e) in
      let P : ℕ → Type 0 = λ m. (f.stands m ≡ true) × (f.root m ≡ c) in
      let closed : (m k d : ℕ) → P m → f.link m k ≡ loaded d → P d = λ m k d p link. let child = (sound.node m p.0).child k d link in (child.stands, child.root ∙ p.1) in
      let renew : (m : ℕ) → P m → Renews f g m = λ m p. both m p.0 (λ e. ne (sym p.1 ∙ e)) in
      let same : (m i : ℕ) (r : Ref) → P m → slice_get (refs f m) i ≡ Some r → is_indirect r ≡ false → IsBare f c r.key → slice_get (refs g m) i ≡ Some r =
      λ m i r p read leaf bare. leaves_same m i r p.0 (λ e. ne (sym p.1 ∙ e ∙ root)) read leaf (λ e. bare dir stood root (subst (λ t. f.belongs dir t r.key ≡ true) p.1 e)) in
      record {
        place = (both c stands other).place;
        inode = λ i is. inode_renewed old new c i other (beside (both c stands other).place.stands) is;
        leaves = λ l leaves. list_renewed f g c P closed renew same (stands, own) l leaves;
        paths = λ key o path. reaches_renew f g P closed renew (stands, own) path;
        named = named_on c (both c stands other).place;
        unloaded = unloaded_on c (both c stands other).place;
        bare = bare_on c;
        same = λ key r bare path. path_same f g c P closed renew same (stands, own) key r bare path;
      }
