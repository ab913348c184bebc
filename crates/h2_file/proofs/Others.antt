-- The trees of other roots, where one file was changed.
use Rattle.std.specs.Prelude.{◌↔◌}
use Rattle.std.proofs.Common.{◌≡◌, ℕ, true, false, refl, sym, ◌∙◌, ap, List, [], ◌∷◌, Option, Some, subst, inl, inr, slice_get}
use Rattle.std.proofs.lemmas.Option.{slice_get_within}
use Rattle.h2_ref.specs.declared.reference.Ref.{Ref}
use Rattle.h2_set.specs.Ranges.{is_indirect}
use Rattle.h2_set.specs.RefSet.{RefSet}
use Rattle.h2_set.specs.Forest.{Forest, refs, loaded, IsSound}
use Rattle.h2_set.specs.Calls.{AllRenewed, InPlace, Renews}
use Rattle.h2_set.specs.ChangeLaws.{same_or_not}
use Rattle.h2_set.specs.PathLaws.{reaches_renew, renewed_at}
use Rattle.h2_tree.specs.OtherTrees.{KeepsOtherLeaves, same_leaves, leaves_trans, off_leaf, way_end}
use Rattle.h2_inode.specs.declared.kind.InodeKind.{InodeKind}
use Rattle.h2_inode.specs.declared.inode.Body.{Body}
use Rattle.h2_inode.specs.declared.inode.Body.TheVariants.{Refs, Bytes}
use Rattle.h2_inode.specs.declared.inode.Inode.{Inode}
use Rattle.h2_inode.specs.Nodes.{Fields, Told, bytes_of, set_of, MayHave, HasInode, IsBare, held_by, KeepsOthersBeside}
use Rattle.h2_inode.specs.BareLaws.{bare_stays, list_renewed, path_same}
use Rattle.h2_inode.specs.NodeLaws.{named_stays, named_back}
use Rattle.h2_inode.specs.Loaded.{view_of}
use Rattle.h2_inode.specs.Others.{body_with, with_set, RenewsTree, RenewsOthers}
use Rattle.h2_file.specs.Cutting.{CutsNodes, CutsFile}
use Rattle.h2_file.specs.Linking.{LinksNodes, LinksFile}
use Rattle.h2_file.proofs.Linked.{opened_from, put_from}

none_left : (qs : List Ref) → AllRenewed [] qs → qs ≡ []
none_left [] a = refl
none_left (q ∷ qs) a = absurd a

bytes_with : (b : Body) (s : RefSet) → bytes_of (body_with b s) ≡ bytes_of b
bytes_with (Refs t) s = refl
bytes_with (Bytes x) s = refl

may_with : (kind : InodeKind) (b : Body) (s : RefSet) (r : Ref) → MayHave kind b r ↔ MayHave kind (body_with b s) r
may_with kind (Refs t) s r = (λ may. may, λ may. may)
may_with kind (Bytes x) s r = (λ may. may, λ may. may)

set_with : (b : Body) (s t : RefSet) → t ≡ set_of b → AllRenewed t.refs s.refs → s.capacity ≡ 4 → s ≡ set_of (body_with b s)
set_with (Refs x) s t is renewed capacity = refl
set_with (Bytes x) s t is renewed capacity =
    let none = none_left s.refs (subst (λ (l : RefSet). AllRenewed l.refs s.refs) is renewed) in
    λ k. record { refs = none k; capacity = capacity k }

module _ (f g : Forest) (at : ℕ) (sound : IsSound f) (sound_g : IsSound g) (place : InPlace f g at)
    (renews : (m : ℕ) → f.stands m ≡ true → (f.root m ≡ at → ⊥) → Renews f g m)
    (leaf_bits : (m : ℕ) → f.stands m ≡ true → g.stands m ≡ true → g.leaf_bits m ≡ f.leaf_bits m)
    (allows : (m : ℕ) (r : Ref) → f.stands m ≡ true → g.stands m ≡ true → (m ≡ at → ⊥) → g.allows m r ≡ f.allows m r)
    (still : (m : ℕ) → f.stands m ≡ true → g.stands m ≡ true → InPlace f g m)
    (roots : (m : ℕ) → g.stands m ≡ true → g.root m ≡ m → f.stands m ≡ true) (stands : f.stands at ≡ true) (top : f.root at ≡ at) (exact : KeepsOtherLeaves f g at) where
  root_place : (d : ℕ) → f.stands d ≡ true → f.root d ≡ d → InPlace f g d
  root_place d st own = elim (same_or_not d at) as (λ _. InPlace f g d) [
    | inl e ↦ subst (λ n. InPlace f g n) (sym e) place
    | inr ne ↦ (renews d st (λ e. ne (sym own ∙ e))).place
  ]

  capacity : (c : ℕ) → g.stands c ≡ true → g.root c ≡ c → let s = g.set c in s.capacity ≡ 4
  capacity c st own = (sound_g.node c st).root_capacity own

  inode_renewed : (old new : ℕ → Option Fields) (c : ℕ) (i : Inode) → (c ≡ at → ⊥) → new c ≡ old c → HasInode f old c i → HasInode g new c (with_set i (g.set c))
  inode_renewed old new c i ne beside is =
      let now = renews c is.stands (λ e. ne (sym is.root ∙ e)) in
      record {
        stands = now.place.stands;
        root = now.place.root ∙ is.root;
        tree = record {
          low = now.place.low ∙ is.tree.low;
          bits = now.place.bits ∙ is.tree.bits;
          leaf_bits = leaf_bits c is.stands now.place.stands ∙ is.tree.leaf_bits;
          allows = λ r. let may = may_with i.kind i.body (g.set c) r in let same = allows c r is.stands now.place.stands ne in (λ e. may.0 ((is.tree.allows r).0 (sym same ∙ e)), λ m. same ∙ (is.tree.allows r).1 (may.1 m));
        };
        fields = beside ∙ is.fields ∙ ap Some (λ k. record { kind = i.kind; number = i.number; size = i.size; links = i.links; next = i.next; name = i.name; bytes = sym (bytes_with i.body (g.set c)) k });
        set = set_with i.body (g.set c) (f.set c) is.set now.renewed (capacity c now.place.stands (now.place.root ∙ is.root));
      }

  pub renews_tree : (old new : ℕ → Option Fields) (was tells : Ref → Option Told) (c : ℕ) → f.stands c ≡ true → f.root c ≡ c → (c ≡ at → ⊥) → (g.stands c ≡ true → new c ≡ old c) → RenewsTree (record { forest = f; holds = old; tells = was }) (record { forest = g; holds = new; tells = tells }) c
  renews_tree old new was tells c st own ne beside =
      let other : f.root c ≡ at → ⊥ = λ e. ne (sym own ∙ e) in
      let now = (renews c st other).place in
      let P : ℕ → Type 0 = λ m. (f.stands m ≡ true) × (f.root m ≡ c) in
      let closed : (m k d : ℕ) → P m → f.link m k ≡ loaded d → P d = λ m k d p link. let child = (sound.node m p.0).child k d link in (child.stands, child.root ∙ p.1) in
      let renew : (m : ℕ) → P m → Renews f g m = λ m p. renews m p.0 (λ e. ne (sym p.1 ∙ e)) in
      let same : (m i : ℕ) (r : Ref) → P m → slice_get (refs f m) i ≡ Some r → is_indirect r ≡ false → IsBare f c r.key → slice_get (refs g m) i ≡ Some r =
      λ m i r p read leaf bare. exact m i r p.0 (λ e. ne (sym p.1 ∙ e ∙ top)) read leaf (λ e. bare at stands top (subst (λ t. f.belongs at t r.key ≡ true) p.1 e)) in
      record {
        place = now;
        inode = λ i is. inode_renewed old new c i ne (beside now.stands) is;
        leaves = λ l leaves. list_renewed f g c P closed renew same (st, own) l leaves;
        paths = λ key o path. reaches_renew f g P closed renew (st, own) path;
        named = λ key d is. named_stays f g c key d now (root_place d is.stands is.root) is;
        unloaded = λ key none d is. let before = roots d is.stands is.root in none d (named_back f g c key d now before (still d before is.stands) is);
        bare = λ key bare. bare_stays f g c key roots still bare;
        same = λ key r bare path. path_same f g c P closed renew same (st, own) key r bare path;
      }

-- No leaf of another tree changes that doesn't name the file, or what the file belongs to

linked_leaves : (f g : Forest) (at : ℕ) (rs : List Ref) → f.stands at ≡ true → f.root at ≡ at → LinksNodes f g at rs → KeepsOtherLeaves f g at
linked_leaves f g at rs stands top nodes =
    let w = nodes.walked in
    let o = nodes.opened in
    let p = nodes.linked in
    let walk = nodes.prepares in
    let at_w = (walk.stays at stands).place in
    let opened = opened_from stands top walk nodes.opens in
    let puts = put_from stands top walk nodes.opens nodes.puts in
    let first = same_leaves f w at (λ m st other. walk.sets m st) in
    let last = same_leaves p g at (λ m st other. (nodes.sizes.others m st (λ e. other (ap p.root e))).set) in
    leaves_trans f w g at at_w (λ m st other. (walk.stays m st).place) first
    (leaves_trans w o g at opened.place (λ m st other. opened.still m st) opened.exact
    (leaves_trans o p g at puts.place (λ m st other. puts.still m st) puts.exact last))

cut_leaves : (f g : Forest) (at size : ℕ) (last : Option Ref) → f.stands at ≡ true → CutsNodes f g at size last → KeepsOtherLeaves f g at
cut_leaves f g at size last stands nodes m i r there other read is_leaf free =
    let w = nodes.walked in
    let n = nodes.node in
    let at_w = (nodes.walks.stays at stands).place in
    let now = (nodes.walks.stays m there).place in
    let end = way_end nodes.walks.sound at_w.stands nodes.way in
    let read_w : slice_get (refs w m) i ≡ Some r = ap (λ (s : RefSet). slice_get s.refs i) (nodes.walks.sets m there) ∙ read in
    let apart_at : w.root m ≡ w.root at → ⊥ = λ e. other (sym now.root ∙ e ∙ at_w.root) in
    let apart : w.root m ≡ w.root n → ⊥ = λ e. apart_at (e ∙ end.0) in
    let free_w : w.belongs n (w.root m) r.key ≡ true → ⊥ = λ e. free (sym (at_w.belongs (f.root m) r.key) ∙ sym (end.1 (f.root m) r.key) ∙ subst (λ t. w.belongs n t r.key ≡ true) now.root e) in
    let renewed = nodes.renewed m now.stands apart_at in
    let at_i = renewed_at (refs w m) (refs g m) renewed.renewed i r read_w in
    nodes.exact m i r now.stands renewed.place.stands (λ e. apart (ap w.root e)) read_w (slice_get_within (refs g m) i at_i.ref at_i.read) (off_leaf w m n i r nodes.walks.sound now.stands nodes.stands read_w is_leaf apart free_w)

-- Where blocks were put into a file
pub linked_others : {B : Type 0} (fields : B → Option Fields) (f g : Forest) (at : ℕ) (rs : List Ref) (old new : ℕ → B) (was tells : Ref → Option Told) → IsSound f → f.stands at ≡ true → f.root at ≡ at → LinksFile f g at rs → KeepsOthersBeside f g at old new → RenewsOthers (view_of fields f old was) (view_of fields g new tells) at
linked_others fields f g at rs old new was tells sound stands top links beside c st own ne =
    renews_tree f g at sound links.sound links.place links.others (λ m st' st''. links.leaf_bits m st') (λ m r st' st'' ne'. links.allows m r st' ne') (λ m st' st''. links.still m st') links.roots stands top (linked_leaves f g at rs stands top links.nodes) (held_by fields old) (held_by fields new) was tells c st own ne (λ now. ap fields (beside.same c ne st now))

-- Where a file was cut
pub cut_others : {B : Type 0} (fields : B → Option Fields) (f g : Forest) (at size : ℕ) (last : Option Ref) (old new : ℕ → B) (was tells : Ref → Option Told) → IsSound f → f.stands at ≡ true → f.root at ≡ at → CutsFile f g at size last → KeepsOthersBeside f g at old new → RenewsOthers (view_of fields f old was) (view_of fields g new tells) at
cut_others fields f g at size last old new was tells sound stands top cuts beside c st own ne =
    renews_tree f g at sound cuts.sound cuts.place cuts.others cuts.leaf_bits (λ m r st' st'' ne'. cuts.allows m r st' st'') cuts.still cuts.roots stands top (cut_leaves f g at size last stands cuts.nodes) (held_by fields old) (held_by fields new) was tells c st own ne (λ now. ap fields (beside.same c ne st now))
