-- A forest after a change in one of its PFSs is the one before with this PFS replaced.
use Rattle.std.specs.Prelude.{◌≡◌, ◌≢◌, ◌<◌, ℕ, zero, suc, ◌^◌, Bool, true, false, cond, nat_eq, List, [], ◌∷◌, map, length, slice_index_or, AllPairs, Contains, refl, Some}
use Rattle.std.proofs.Common.{sym, ◌∙◌, arith, inl, inr, subst, ap}
use Rattle.std.proofs.lemmas.Bool.{eqb-true, eq-eqb}
use Rattle.h2_num.specs.Places.{Places}
use Rattle.h2_ref.specs.declared.reference.Kind.TheVariants.{Inode as Inode_kind}
use Rattle.h2_ref.specs.declared.reference.Ref.{Ref}
use Rattle.h2_dirkey.specs.PfsName.{IsPfsName}
use Rattle.h2_set.specs.Forest.{Forest, IsSound, IsRootOf}
use Rattle.h2_set.specs.Calls.{names_node}
use Rattle.h2_inode.specs.Access.{Access, OneByOne}
use Rattle.h2_inode.specs.PfsList.{ListedPfs, IsPfs}
use Rattle.h2_inode.specs.ListLaws.{behind, all_through, rising_carried}
use Rattle.h2_inode.specs.BareLaws.{leaf_like}
use Rattle.h2_inode.specs.Loaded.{at_root, View, reading, NamesInode}
use Rattle.h2_inode.specs.Others.{LeafRenewed, with_set}
use Rattle.h2_forest.specs.declared.pfs.Pfs.{Pfs}
use Rattle.h2_forest.specs.Forest.{PlainForest}
use Rattle.std.proofs.lemmas.Option.{same_Some}
use Rattle.std.specs.FinMap.{get, insert}
use Rattle.h2_inode.specs.Nodes.{Fields, fields_of, HasInode, NamesOne}
use Rattle.h2_forest.specs.declared.table.Node.{Node}
use Rattle.h2_consistent.specs.FileTree.{IsFileTree}
use Rattle.h2_meaning.specs.Forest.{listed_of, IsWhole, IsForest, InTable, IsTable}
use Rattle.h2_meaning.specs.Replaced.{RenewsAllBut, IsIn, HoldsPfs, in_place_of, with_pfs, SameKind, HoldsNode}
use Rattle.h2_meaning.specs.ReplacedLaws.{true_false, through_changed, whole_beside, is_other, only_one, table_kept}

-- Lists of PFSs whose ids and names are the same

-- the PFSs have one id and one name
abbrev SameName : ListedPfs → ListedPfs → Type 0
SameName p q = (q.id ≡ p.id) × (q.name ≡ p.name)

beside_at : (xs ys : List ListedPfs) → OneByOne SameName xs ys → (i : ℕ) (d : ListedPfs) → i < length ys → (i < length xs) × SameName (slice_index_or xs i d) (slice_index_or ys i d)
beside_at [] [] p i d lt = absurd (omega (arith, lt))
beside_at [] (y ∷ ys) p i d lt = absurd p
beside_at (x ∷ xs) [] p i d lt = absurd p
beside_at (x ∷ xs) (y ∷ ys) p zero d lt = (omega arith, p.0)
beside_at (x ∷ xs) (y ∷ ys) p (suc i) d lt =
    let it = beside_at xs ys p.1 i d (omega (arith, lt)) in
    let less : i < length xs = it.0 in
    (omega (arith, less), it.1)

names_differ : (xs ys : List ListedPfs) → OneByOne SameName xs ys → AllPairs (λ (p q : ListedPfs). p.name ≢ q.name) xs → AllPairs (λ (p q : ListedPfs). p.name ≢ q.name) ys
names_differ xs ys p differ = λ i j d lt len e.
    let second = beside_at xs ys p j d len in
    let first = beside_at xs ys p i d (omega (arith, lt, len)) in
    differ i j d lt second.0 (sym first.1.1 ∙ e ∙ second.1.1)

-- Every leaf that stands beside a PFS names one of the list
pub wholes : {X Y : Type 0} (A B : X → Y → Type 0) → (xs : List X) (ys : List Y) → ((x : X) (y : Y) → Contains ys y → A x y → B x y) → OneByOne A xs ys → OneByOne B xs ys
wholes A B [] [] f p = tt
wholes A B [] (y ∷ ys) f p = absurd p
wholes A B (x ∷ xs) [] f p = absurd p
wholes A B (x ∷ xs) (y ∷ ys) f p = (f x y (0, omega arith, refl) p.0, wholes A B xs ys (λ x z h. f x z (behind y ys z h)) p.1)

-- each PFS of the list beside what stands in its place
same_names : (p : Pfs) (ps : List Pfs) → ((q : Pfs) → Contains ps q → q.id ≡ p.id → q.name ≡ p.name) → OneByOne SameName (map listed_of ps) (map listed_of (map (in_place_of p) ps))
same_names p [] same = tt
same_names p (q ∷ ps) same = (by (nat_eq q.id p.id) refl, same_names p ps (λ r h. same r (behind q ps r h)))
  where
    by : (b : Bool) → nat_eq q.id p.id ≡ b → SameName (listed_of q) (listed_of (cond b p q))
    by true e = let is : q.id ≡ p.id = eqb-true q.id p.id e in (sym is, sym (same q (0, omega arith, refl) is))
    by false e = (refl, refl)

-- what stands beside a leaf is told of by the leaf's PFS
listed_each : (a : Access) (t : a.Tree) (ls : List Ref) (ps : List Pfs) → OneByOne (IsWhole a t) ls ps → OneByOne (IsPfs a t) ls (map listed_of ps)
listed_each a t [] [] p = tt
listed_each a t [] (q ∷ ps) p = absurd p
listed_each a t (l ∷ ls) [] p = absurd p
listed_each a t (l ∷ ls) (q ∷ ps) p = (p.0.named, listed_each a t ls ps p.1)

module _ (u v : View) (P : ℕ → Type 0) (c : ℕ) (h : RenewsAllBut u v P c) (stands : u.forest.stands c ≡ true) (Content : Ref → Places → Type 0) (blocks : (r : Ref) (x : Places) → Content r x → names_node r.kind ≡ false)
    (at : ℕ) (is : P at) (other : at ≡ c → ⊥) (p : Pfs) (only : (key : ℕ) → u.forest.belongs c at key ≡ true → key ≡ p.id)
    (now : (s : Ref) → s.kind ≡ Inode_kind → s.key ≡ p.id → IsWhole (reading v Content) (at_root at) s p) where
  whole_by : (r s : Ref) (q : Pfs) → LeafRenewed u.forest at r s → IsWhole (reading u Content) (at_root at) r q → (b : Bool) → nat_eq q.id p.id ≡ b → IsWhole (reading v Content) (at_root at) s (cond b p q)
  whole_by r s q e was true tie =
      let n = was.named in
      let id : q.id ≡ p.id = eqb-true q.id p.id tie in
      now s (e.renewed.kind ∙ n.kind_is) (e.renewed.key ∙ sym n.id_is ∙ id)
  whole_by r s q e was false tie =
      let n = was.named in
      whole_beside u v P c h stands Content blocks at p.id is other only r s q e (λ same. true_false (sym (eq-eqb q.id p.id (n.id_is ∙ same)) ∙ tie)) was

  forest_by : (next : ℕ) (f : PlainForest) → ((q : Pfs) → Contains f.pfss q → q.id ≡ p.id → q.name ≡ p.name) → IsForest (reading u Content) (at_root at) next f → IsForest (reading v Content) (at_root at) next (with_pfs f p)
  forest_by next f same was =
      let l = was.list in
      let list = (h.trees at is other).leaves l.leaves l.has.read in
      let each = through_changed (LeafRenewed u.forest at) (IsWhole (reading u Content) (at_root at)) (IsWhole (reading v Content) (at_root at)) (in_place_of p)
      (λ r s q e w. whole_by r s q e w (nat_eq q.id p.id) refl) l.leaves list.list f.pfss list.each was.each in
      let names = same_names p f.pfss same in
      record {
        list = record {
          leaves = list.list;
          has = record { read = list.leaves; ordered = rising_carried (LeafRenewed u.forest at) (leaf_like u.forest at) l.leaves list.list list.each 0 (2 ^ 64) l.has.ordered };
          each = listed_each (reading v Content) (at_root at) list.list (map (in_place_of p) f.pfss) each;
          good = all_through SameName (λ (q : ListedPfs). IsPfsName q.name) (λ (q : ListedPfs). IsPfsName q.name) (λ x y e good. subst IsPfsName (sym e.1) good) (map listed_of f.pfss) (map listed_of (map (in_place_of p) f.pfss)) names l.good;
          differ = names_differ (map listed_of f.pfss) (map listed_of (map (in_place_of p) f.pfss)) names l.differ;
          below = all_through SameName (λ (q : ListedPfs). q.id < next) (λ (q : ListedPfs). q.id < next) (λ x y e less. subst (λ n. n < next) (sym e.0) less) (map listed_of f.pfss) (map listed_of (map (in_place_of p) f.pfss)) names l.below;
        };
        each = each;
        next_is = was.next_is;
        no_handles = was.no_handles;
      }

-- Root c is that of a PFS, which a leaf of the super-root's tree names, or a leaf of its tree names c

module _ (f : Forest) (sound : IsSound f) (top id t : ℕ) (named : IsRootOf f top id t) where
  in_stands : (c : ℕ) → IsIn f t c → f.stands c ≡ true
  in_stands c (inl same) = subst (λ d. f.stands d ≡ true) (sym same) named.stands
  in_stands c (inr x) = x.1.stands

  in_other : (c : ℕ) → IsIn f t c → top ≡ c → ⊥
  in_other c (inl is) same = is_other f sound top id t named (same ∙ is)
  in_other c (inr x) same =
      let up : f.belongs c top id ≡ true = (x.1.belongs top id).1 (inr ((named.belongs top id).1 (inl (refl, refl)))) in
      (sound.owner c top id x.1.stands up).other (x.1.root ∙ sym same)

  in_only : (c : ℕ) → IsIn f t c → (key : ℕ) → f.belongs c top key ≡ true → key ≡ id
  in_only c (inl is) key up = only_one f sound top id t named key (subst (λ d. f.belongs d top key ≡ true) is up)
  in_only c (inr x) key up = elim ((x.1.belongs top key).0 up) [ inl is ↦ absurd (is_other f sound top id t named is.0) | inr above ↦ only_one f sound top id t named key above ]

pub forest_kept : (u v : View) (P : ℕ → Type 0) (c : ℕ) → RenewsAllBut u v P c → (Content : Ref → Places → Type 0) → ((r : Ref) (x : Places) → Content r x → names_node r.kind ≡ false) → (top t next : ℕ) (f : PlainForest) (p : Pfs) → P top
    → IsRootOf u.forest top p.id t → IsIn u.forest t c → HoldsPfs v Content t p → ((q : Pfs) → Contains f.pfss q → q.id ≡ p.id → q.name ≡ p.name)
    → IsForest (reading u Content) (at_root top) next f → IsForest (reading v Content) (at_root top) next (with_pfs f p)
forest_kept u v P c h Content blocks top t next f p is named within now same =
    let other = in_other u.forest h.sound top p.id t named c within in
    forest_by u v P c h (in_stands u.forest h.sound top p.id t named c within) Content blocks top is other p (in_only u.forest h.sound top p.id t named c within)
    (λ s kind key. record {
      named = record {
        kind_is = kind;
        inode = now.inode;
        tree = at_root t;
        read = inl (t, subst (λ n. IsRootOf v.forest top n t) (sym key) ((h.trees top is other).named p.id t named), now.held, refl);
        pfs_is = now.pfs_is;
        numbered = now.numbered ∙ sym key;
        id_is = sym key;
        name_is = now.name_is;
        next_is = now.next_is;
      };
      holds = now.holds;
    }) next f same

-- An inode of a PFS of the forest is replaced

partner_of : {X Y : Type 0} (A : X → Y → Type 0) (xs : List X) (ys : List Y) → OneByOne A xs ys → (y : Y) (k : ℕ) → k < length ys → slice_index_or ys k y ≡ y → (x : X) × A x y
partner_of A [] [] p y k lt e = absurd (omega (arith, lt))
partner_of A [] (z ∷ ys) p y k lt e = absurd p
partner_of A (x ∷ xs) [] p y k lt e = absurd p
partner_of A (x ∷ xs) (z ∷ ys) p y zero lt e = (x, subst (λ w. A x w) e p.0)
partner_of A (x ∷ xs) (z ∷ ys) p y (suc k) lt e = partner_of A xs ys p.1 y k (omega (arith, lt)) e

module _ (u : View) (Content : Ref → Places → Type 0) (one : NamesOne u.forest) (top t : ℕ) where
  -- the root that the leaf of a PFS names holds the PFS
  held_by : (r : Ref) (q : Pfs) (named : IsPfs (reading u Content) (at_root top) r (listed_of q)) → IsTable (reading u Content) named.tree q.next q.table → IsRootOf u.forest top q.id t
      → NamesInode u.forest u.holds u.tells (at_root top) r named.inode named.tree → HoldsPfs u Content t q
  held_by r q n table is (inl x) =
      let same : x.0 ≡ t = one top q.id t x.0 is (subst (λ k. IsRootOf u.forest top k x.0) (sym n.id_is) x.1) in
      record {
        inode = n.inode;
        held = subst (λ d. HasInode u.forest u.holds d n.inode) same x.2;
        pfs_is = n.pfs_is;
        numbered = n.numbered ∙ sym n.id_is;
        name_is = n.name_is;
        next_is = n.next_is;
        holds = subst (λ w. IsTable (reading u Content) w q.next q.table) (x.3 ∙ ap at_root same) table;
      }
  held_by r q n table is (inr x) = absurd (x.0 t (subst (λ k. IsRootOf u.forest top k t) n.id_is is))

  -- so it is of each PFS of a forest
  held_in : (next : ℕ) (f : PlainForest) → IsForest (reading u Content) (at_root top) next f → (q : Pfs) → Contains f.pfss q → IsRootOf u.forest top q.id t → HoldsPfs u Content t q
  held_in next f h q at is =
      let l = h.list in
      let x = partner_of (IsWhole (reading u Content) (at_root top)) l.leaves f.pfss h.each q at.0 at.1 at.2 in
      let w = x.1 in
      let n = w.named in
      held_by x.0 q n w.holds is n.read

-- one root holds one PFS with one name
same_name : (u : View) (Content : Ref → Places → Type 0) (t : ℕ) (p q : Pfs) → HoldsPfs u Content t p → HoldsPfs u Content t q → q.name ≡ p.name
same_name u Content t p q x y =
    let i = x.inode in
    let j = y.inode in
    let a = x.held in
    let b = y.held in
    let fields : fields_of j ≡ fields_of i = same_Some (fields_of j) (fields_of i) (sym b.fields ∙ a.fields) in
    y.name_is ∙ ap (λ (g : Fields). g.name) fields ∙ sym x.name_is

pub inode_kept : (u v : View) (P : ℕ → Type 0) (c : ℕ) → RenewsAllBut u v P c → (Content : Ref → Places → Type 0) → ((r : Ref) (x : Places) → Content r x → names_node r.kind ≡ false) → (top t k next : ℕ) (f : PlainForest) (p : Pfs) (old node : Node)
    → NamesOne u.forest → P top → P t → IsRootOf u.forest top p.id t → IsRootOf u.forest t k c → Contains f.pfss p → get p.table k ≡ Some old → SameKind old node
    → HoldsNode v Content (InTable (insert p.table k node)) c k node → IsFileTree p.next (insert p.table k node)
    → IsForest (reading u Content) (at_root top) next f → IsForest (reading v Content) (at_root top) next (with_pfs f (record p { table = insert p.table k node }))
inode_kept u v P c h Content blocks top t k next f p old node one is below named names at there same now whole was =
    let before = held_in u Content one top t next f was p at named in
    let after = table_kept u v P c h t k names Content blocks below p.next p.next p.table old node there same now whole before.holds in
    let i = before.inode in
    let renewed = h.trees t below (is_other u.forest h.sound t k c names) in
    forest_kept u v P c h Content blocks top t next f (record p { table = insert p.table k node }) is named (inr (k, names)) (record {
      inode = with_set i (v.forest.set t);
      held = renewed.inode i before.held;
      pfs_is = before.pfs_is;
      numbered = before.numbered;
      name_is = before.name_is;
      next_is = before.next_is;
      holds = after;
    }) (λ q has id. same_name u Content t p q before (held_in u Content one top t next f was q has (subst (λ n. IsRootOf u.forest top n t) (sym id) named))) was
