-- A table after a change of one of its inodes is the one before with this inode replaced.
use Rattle.std.specs.Prelude.{◌≡◌, ℕ, ◌^◌, Bool, true, false, cond, List, [], ◌∷◌, map, Some, refl, ◌↔◌}
use Rattle.std.proofs.Common.{ap, sym, ◌∙◌, inl, inr, subst}
use Rattle.std.proofs.lemmas.Option.{none-some}
use Rattle.std.specs.Ordering.{eq_by_cmp, nat_cmp}
use Rattle.std.specs.Cmp.{nat_cmp_total, eq_by_cmp_equiv, Equal-is}
use Rattle.std.specs.FinMap.{nat_cmp-IsAntisymmetric, find, get, insert, from_entries, get-insert, get-from_entries, same_map}
use Rattle.h2_num.specs.Places.{Places}
use Rattle.h2_ref.specs.declared.reference.Kind.TheVariants.{Inode as Inode_kind}
use Rattle.h2_ref.specs.declared.reference.Ref.{Ref}
use Rattle.h2_set.specs.Forest.{Forest, IsSound, IsRootOf, HasOwner}
use Rattle.h2_set.specs.Calls.{names_node}
use Rattle.h2_inode.specs.declared.inode.Inode.{Inode}
use Rattle.h2_inode.specs.Nodes.{IsUnloaded}
use Rattle.h2_inode.specs.Access.{OneByOne, Access}
use Rattle.h2_inode.specs.Following.{SameInode}
use Rattle.h2_inode.specs.FollowLaws.{same_inode}
use Rattle.h2_inode.specs.ListLaws.{rising_carried}
use Rattle.h2_inode.specs.BareLaws.{leaf_like, unloaded_bare}
use Rattle.h2_inode.specs.Loaded.{Tree, at_root, IsTold, NamesInode, View, reading, TellsOn}
use Rattle.h2_inode.specs.Others.{with_set, LeafRenewed, RenewsTrees, IsTreeOf, over_renewal, RenewsOthers}
use Rattle.h2_inode.specs.RenewedLaws.{renewed_follow, same_with}
use Rattle.h2_forest.specs.declared.table.Node.{Node}
use Rattle.h2_forest.specs.declared.table.Node.TheVariants.{File, Directory}
use Rattle.h2_forest.specs.Table.{Table}
use Rattle.h2_forest.specs.declared.pfs.Pfs.{Pfs}
use Rattle.h2_consistent.specs.FileTree.{IsFileTree}
use Rattle.h2_meaning.specs.Node.{IsMember, HasMembers}
use Rattle.h2_meaning.specs.Forest.{IsTarget, InTable, IsTable, IsWhole}
use Rattle.h2_meaning.specs.CarryLaws.{node_carried, table_carried}
use Rattle.h2_meaning.specs.Replaced.{RenewsAllBut, HoldsNodes, HoldsNode, SameKind}

-- numbers that tie are the same
pub tied : (n k : ℕ) → eq_by_cmp nat_cmp n k ≡ true → n ≡ k
tied n k e = nat_cmp-IsAntisymmetric n k ((Equal-is (nat_cmp n k)).0 e)

-- an answer isn't both
pub true_false : true ≡ false → ⊥
true_false e = cc

-- numbers that don't tie differ
pub untied : (n k : ℕ) → eq_by_cmp nat_cmp n k ≡ false → n ≡ k → ⊥
untied n k e same = true_false (sym (subst (λ m. eq_by_cmp nat_cmp n m ≡ true) same ((eq_by_cmp_equiv nat_cmp_total).refl n)) ∙ e)

-- A table with one inode replaced

-- the node in the place of that with number k
abbrev replaced : ℕ → Node → ℕ × Node → ℕ × Node
replaced k node m = cond (eq_by_cmp nat_cmp m.0 k) (k, node) m

module _ (k : ℕ) (node : Node) where
  find_other : (q : ℕ) → eq_by_cmp nat_cmp q k ≡ false → (ms : List (ℕ × Node)) → find nat_cmp q (map (replaced k node) ms) ≡ find nat_cmp q ms
  find_other q apart [] = refl
  find_other q apart (m ∷ ms) = by (find_other q apart ms) (eq_by_cmp nat_cmp m.0 k) refl
    where
      by : find nat_cmp q (map (replaced k node) ms) ≡ find nat_cmp q ms → (b : Bool) → eq_by_cmp nat_cmp m.0 k ≡ b
          → find nat_cmp q (cond b (k, node) m ∷ map (replaced k node) ms) ≡ find nat_cmp q (m ∷ ms)
      by rest true tie =
          ap (λ z. cond z (Some node) (find nat_cmp q (map (replaced k node) ms))) apart ∙ rest
          ∙ sym (ap (λ z. cond z (Some m.1) (find nat_cmp q ms)) (subst (λ n. eq_by_cmp nat_cmp q n ≡ false) (sym (tied m.0 k tie)) apart))
      by rest false tie = ap (cond (eq_by_cmp nat_cmp q m.0) (Some m.1)) rest

  find_here : (ms : List (ℕ × Node)) (old : Node) → find nat_cmp k ms ≡ Some old → find nat_cmp k (map (replaced k node) ms) ≡ Some node
  find_here [] old e = absurd (none-some old e)
  find_here (m ∷ ms) old e = by (find_here ms old) (eq_by_cmp nat_cmp m.0 k) refl
    where
      by : (find nat_cmp k ms ≡ Some old → find nat_cmp k (map (replaced k node) ms) ≡ Some node) → (b : Bool) → eq_by_cmp nat_cmp m.0 k ≡ b
          → find nat_cmp k (cond b (k, node) m ∷ map (replaced k node) ms) ≡ Some node
      by rest true tie = ap (λ z. cond z (Some node) (find nat_cmp k (map (replaced k node) ms))) ((eq_by_cmp_equiv nat_cmp_total).refl k)
      by rest false tie =
          let apart : eq_by_cmp nat_cmp k m.0 ≡ false = (eq_by_cmp_equiv nat_cmp_total).symm k m.0 ∙ tie in
          ap (λ z. cond z (Some m.1) (find nat_cmp k (map (replaced k node) ms))) apart
          ∙ rest (sym (ap (λ z. cond z (Some m.1) (find nat_cmp k ms)) apart) ∙ e)

  found_replaced : (ms : List (ℕ × Node)) (old : Node) → find nat_cmp k ms ≡ Some old → (q : ℕ) (b : Bool) → eq_by_cmp nat_cmp q k ≡ b
      → find nat_cmp q (map (replaced k node) ms) ≡ cond b (Some node) (find nat_cmp q ms)
  found_replaced ms old e q true tie = subst (λ n. find nat_cmp n (map (replaced k node) ms) ≡ Some node) (sym (tied q k tie)) (find_here ms old e)
  found_replaced ms old e q false tie = find_other q tie ms

  table_replaced : (ms : List (ℕ × Node)) (old : Node) → get (from_entries {R = nat_cmp} ms) k ≡ Some old → insert (from_entries {R = nat_cmp} ms) k node ≡ from_entries (map (replaced k node) ms)
  table_replaced ms old e =
      let there : find nat_cmp k ms ≡ Some old = sym (get-from_entries nat_cmp_total ms k) ∙ e in
      same_map nat_cmp_total nat_cmp-IsAntisymmetric (insert (from_entries ms) k node) (from_entries (map (replaced k node) ms)) (λ q.
      get-insert nat_cmp_total (from_entries ms) k node q
      ∙ ap (cond (eq_by_cmp nat_cmp q k) (Some node)) (get-from_entries nat_cmp_total ms q)
      ∙ sym (get-from_entries nat_cmp_total (map (replaced k node) ms) q ∙ found_replaced ms old there q (eq_by_cmp nat_cmp q k) refl))

-- an inode of the same kind is as good a target
same_target : (target : ℕ) (old node : Node) → SameKind old node → IsTarget target (Some old) → IsTarget target (Some node)
same_target target (File b n) (File c m) same is = is
same_target target (File b n) (Directory es) same is = absurd same
same_target target (Directory es) (File b n) same is = absurd same
same_target target (Directory es) (Directory fs) same is = is

pub targets_kept : (table : Table) (k : ℕ) (old node : Node) → get table k ≡ Some old → SameKind old node → (target number : ℕ) → InTable table target number → InTable (insert table k node) target number
targets_kept table k old node e same target number is = subst (IsTarget target) (sym (get-insert nat_cmp_total table k node number)) (by (eq_by_cmp nat_cmp number k) refl)
  where
    by : (b : Bool) → eq_by_cmp nat_cmp number k ≡ b → IsTarget target (cond b (Some node) (get table number))
    by true tie = same_target target old node same (subst (IsTarget target) (ap (get table) (tied number k tie) ∙ e) is)
    by false tie = is

-- Lists one by one, where the second's members change
pub through_changed : {X Y Z : Type 0} (R : X → Y → Type 0) (A : X → Z → Type 0) (B : Y → Z → Type 0) (f : Z → Z) → ((x : X) (y : Y) (z : Z) → R x y → A x z → B y (f z))
    → (xs : List X) (ys : List Y) (zs : List Z) → OneByOne R xs ys → OneByOne A xs zs → OneByOne B ys (map f zs)
through_changed R A B f g [] [] [] p q = tt
through_changed R A B f g [] [] (z ∷ zs) p q = absurd q
through_changed R A B f g [] (y ∷ ys) zs p q = absurd p
through_changed R A B f g (x ∷ xs) [] zs p q = absurd p
through_changed R A B f g (x ∷ xs) (y ∷ ys) [] p q = absurd q
through_changed R A B f g (x ∷ xs) (y ∷ ys) (z ∷ zs) p q = (g x y z p.0 q.0, through_changed R A B f g xs ys zs p.1 q.1)

-- The other roots are renewed

-- a root but c that isn't above it
abbrev pub Beside : View → (ℕ → Type 0) → ℕ → ℕ → Type 0
Beside u P c d = P d × (d ≡ c → ⊥) × ((key : ℕ) → u.forest.belongs c d key ≡ true → ⊥)

module _ (u v : View) (P : ℕ → Type 0) (c : ℕ) (h : RenewsAllBut u v P c) (stands : u.forest.stands c ≡ true) where
  pub others_renewed : RenewsTrees u v (Beside u P c)
  others_renewed = record {
    trees = λ d p. h.trees d p.0 p.1;
    closed = λ d key e p is.
        let below : u.forest.belongs e d key ≡ true = (is.belongs d key).1 (inl (refl, refl)) in
        let other : e ≡ c → ⊥ = λ same. p.2 key (subst (λ x. u.forest.belongs x d key ≡ true) same below) in
        (h.closed d key e p.0 p.1 is other, other, λ j up. p.2 key (h.sound.chain c e j d key stands up below));
    sound = h.sound;
    told = h.told;
    name = h.name;
    plain = h.plain;
  }

  module _ (Content : Ref → Places → Type 0) (blocks : (r : Ref) (x : Places) → Content r x → names_node r.kind ≡ false) (at k : ℕ) (p : P at) (other : at ≡ c → ⊥) (only : (key : ℕ) → u.forest.belongs c at key ≡ true → key ≡ k) where
    -- what another leaf of root at names is beside c
    beside_named : (key d : ℕ) → IsRootOf u.forest at key d → (key ≡ k → ⊥) → Beside u P c d
    beside_named key d is ne =
        let below : u.forest.belongs d at key ≡ true = (is.belongs at key).1 (inl (refl, refl)) in
        let apart : d ≡ c → ⊥ = λ same. ne (only key (subst (λ x. u.forest.belongs x at key ≡ true) same below)) in
        (h.closed at key d p other is apart, apart, λ j up. ne (only key (h.sound.chain c d j at key stands up below)))

    inode_beside : (r s : Ref) (i : Inode) (b : Tree) → LeafRenewed u.forest at r s → (r.key ≡ k → ⊥) → NamesInode u.forest u.holds u.tells (at_root at) r i b
        → (j : Inode) × (d : Tree) × NamesInode v.forest v.holds v.tells (at_root at) s j d × SameInode i j × IsTreeOf (Beside u P c) b d
    inode_beside r s i b e ne (inl x) =
        let d = x.0 in
        let is = beside_named r.key d x.1 ne in
        let named = subst (λ n. IsRootOf v.forest at n d) (sym e.renewed.key) ((h.trees at p other).named r.key d x.1) in
        let j = with_set i (v.forest.set d) in
        (j, at_root d, inl (d, named, (h.trees d is.0 is.1).inode i x.2, refl), same_with i (v.forest.set d), subst (λ z. IsTreeOf (Beside u P c) z (at_root d)) (sym x.3) (refl, is))
    inode_beside r s i b e ne (inr x) =
        let y = x.1 in
        let same = e.same (unloaded_bare u.forest at r.key h.sound x.0) in
        let told : IsTold v.tells s i b = (y.0, subst (λ z. v.tells z ≡ Some y.0) (sym same) (h.told r y.0 y.1), y.2, y.3) in
        let none = subst (λ n. IsUnloaded v.forest at n) (sym e.renewed.key) ((h.trees at p other).unloaded r.key x.0) in
        (i, b, inr (none, told), same_inode i, subst (λ z. IsTreeOf (Beside u P c) z z) (sym y.3) refl)

    -- another inode of the table stands for what it stood for
    member_beside : (S T : ℕ → ℕ → Type 0) → ((target number : ℕ) → S target number → T target number) → (r s : Ref) (m : ℕ × Node) → LeafRenewed u.forest at r s → (r.key ≡ k → ⊥)
        → IsMember (reading u Content) S (at_root at) r m → IsMember (reading v Content) T (at_root at) s m
    member_beside S T targets r s m e ne was =
        let g = inode_beside r s was.inode was.tree e ne was.read in
        let alike : SameInode was.inode g.0 = g.3 in
        record {
          kind_is = e.renewed.kind ∙ was.kind_is;
          inode = g.0;
          tree = g.1;
          read = g.2;
          number_is = was.number_is ∙ sym e.renewed.key;
          numbered = alike.number ∙ was.numbered ∙ sym e.renewed.key;
          node_is = node_carried (over_renewal u v (Beside u P c) Content) (renewed_follow u v (Beside u P c) others_renewed Content blocks) S T targets was.tree g.1 was.inode g.0 m.1 g.4 alike was.node_is;
        }

    -- another PFS of the forest is what it was
    pub whole_beside : (r s : Ref) (pfs : Pfs) → LeafRenewed u.forest at r s → (r.key ≡ k → ⊥) → IsWhole (reading u Content) (at_root at) r pfs → IsWhole (reading v Content) (at_root at) s pfs
    whole_beside r s pfs e ne was =
        let n = was.named in
        let g = inode_beside r s n.inode n.tree e ne n.read in
        let alike : SameInode n.inode g.0 = g.3 in
        record {
          named = record {
            kind_is = e.renewed.kind ∙ n.kind_is;
            inode = g.0;
            tree = g.1;
            read = g.2;
            pfs_is = alike.kind ∙ n.pfs_is;
            numbered = alike.number ∙ n.numbered ∙ sym e.renewed.key;
            id_is = n.id_is ∙ sym e.renewed.key;
            name_is = n.name_is ∙ sym alike.name;
            next_is = n.next_is ∙ sym alike.next;
          };
          holds = table_carried (over_renewal u v (Beside u P c) Content) (renewed_follow u v (Beside u P c) others_renewed Content blocks) n.tree g.1 pfs.next pfs.table g.4 was.holds;
        }

    -- the inode with number k is replaced among the members
    module _ (S T : ℕ → ℕ → Type 0) (targets : (target number : ℕ) → S target number → T target number) (node : Node)
        (now : (s : Ref) → s.kind ≡ Inode_kind → s.key ≡ k → IsMember (reading v Content) T (at_root at) s (k, node)) where
      member_by : (r s : Ref) (m : ℕ × Node) → LeafRenewed u.forest at r s → IsMember (reading u Content) S (at_root at) r m
          → (b : Bool) → eq_by_cmp nat_cmp m.0 k ≡ b → IsMember (reading v Content) T (at_root at) s (cond b (k, node) m)
      member_by r s m e was true tie = now s (e.renewed.kind ∙ was.kind_is) (e.renewed.key ∙ sym was.number_is ∙ tied m.0 k tie)
      member_by r s m e was false tie = member_beside S T targets r s m e (λ same. untied m.0 k tie (was.number_is ∙ same)) was

      pub members_replaced : (members : List (ℕ × Node)) → HasMembers (reading u Content) S (at_root at) members → HasMembers (reading v Content) T (at_root at) (map (replaced k node) members)
      members_replaced members was =
          let list = (h.trees at p other).leaves was.leaves was.has.read in
          record {
            leaves = list.list;
            has = record { read = list.leaves; ordered = rising_carried (LeafRenewed u.forest at) (leaf_like u.forest at) was.leaves list.list list.each 0 (2 ^ 64) was.has.ordered };
            each = through_changed (LeafRenewed u.forest at) (IsMember (reading u Content) S (at_root at)) (IsMember (reading v Content) T (at_root at)) (replaced k node)
                (λ r s m e is. member_by r s m e is (eq_by_cmp nat_cmp m.0 k) refl) was.leaves list.list members list.each was.each;
          }

-- A leaf that names root c

module _ (f : Forest) (sound : IsSound f) (at k c : ℕ) (named : IsRootOf f at k c) where
  pub owner_of : HasOwner f c at k
  owner_of = sound.owner c at k named.stands ((named.belongs at k).1 (inl (refl, refl)))

  -- the roots differ
  pub is_other : at ≡ c → ⊥
  is_other same = owner_of.other (named.root ∙ sym same)

  -- root at belongs to none of its own leaves
  not_own : (key : ℕ) → f.belongs at at key ≡ true → ⊥
  not_own key self = (sound.owner at at key owner_of.stands self).other owner_of.root

  -- no other leaf of root at has root c below it
  pub only_one : (key : ℕ) → f.belongs c at key ≡ true → key ≡ k
  only_one key up = elim ((named.belongs at key).0 up) [ inl is ↦ is.1 | inr self ↦ absurd (not_own key self) ]

-- where all roots but one are renewed, the law's premise holds of all roots
pub all_others : (u v : View) (P : ℕ → Type 0) (c : ℕ) → IsSound u.forest → ((m : ℕ) → P m ↔ ((u.forest.stands m ≡ true) × (u.forest.root m ≡ m))) → RenewsOthers u v c
    → TellsOn u v → ((r : Ref) (name : List ℕ) → u.forest.name r ≡ Some name → v.forest.name r ≡ Some name) → ((r : Ref) (name : List ℕ) → u.forest.name r ≡ Some name → names_node r.kind ≡ false)
    → RenewsAllBut u v P c
all_others u v P c sound roots renews told name plain = record {
  sound = sound;
  trees = λ d p other. let is = (roots d).0 p in renews d is.0 is.1 other;
  closed = λ d key e p other is apart. (roots e).1 (is.stands, is.root);
  told = told;
  name = name;
  plain = plain;
}

-- a tree that holds the inodes of a file tree holds the table, and the other way round
pub whole_table : (a : Access) (t : a.Tree) (next : ℕ) (table : Table) → HoldsNodes a (InTable table) t table → IsFileTree next table → IsTable a t next table
whole_table a t next table is whole = record { members = is.members; has = is.has; table_is = is.table_is; whole = whole }

pub nodes_of : (a : Access) (t : a.Tree) (next : ℕ) (table : Table) → IsTable a t next table → HoldsNodes a (InTable table) t table
nodes_of a t next table is = record { members = is.members; has = is.has; table_is = is.table_is }

-- The inode of root c, which a leaf of root at names, is replaced

module _ (u v : View) (P : ℕ → Type 0) (c : ℕ) (h : RenewsAllBut u v P c) (at k : ℕ) (named : IsRootOf u.forest at k c) where
  -- the leaf names root c after the change
  still_named : P at → (s : Ref) → s.key ≡ k → IsRootOf v.forest at s.key c
  still_named p s key = subst (λ n. IsRootOf v.forest at n c) (sym key) ((h.trees at p (is_other u.forest h.sound at k c named)).named k c named)

  module _ (Content : Ref → Places → Type 0) (blocks : (r : Ref) (x : Places) → Content r x → names_node r.kind ≡ false) (p : P at) where
    pub nodes_replaced : (S T : ℕ → ℕ → Type 0) → ((target number : ℕ) → S target number → T target number) → (table : Table) (old node : Node) → get table k ≡ Some old → HoldsNode v Content T c k node
        → HoldsNodes (reading u Content) S (at_root at) table → HoldsNodes (reading v Content) T (at_root at) (insert table k node)
    nodes_replaced S T targets table old node there now was = record {
      members = map (replaced k node) was.members;
      has = members_replaced u v P c h named.stands Content blocks at k p (is_other u.forest h.sound at k c named) (only_one u.forest h.sound at k c named) S T targets node
          (λ s kind key. record {
            kind_is = kind;
            inode = now.inode;
            tree = at_root c;
            read = inl (c, still_named p s key, now.held, refl);
            number_is = sym key;
            numbered = now.numbered ∙ sym key;
            node_is = now.node_is;
          }) was.members was.has;
      table_is = ap (λ t. insert t k node) was.table_is ∙ table_replaced k node was.members old (sym (ap (λ t. get t k) was.table_is) ∙ there);
    }

    pub table_kept : (next now_next : ℕ) (table : Table) (old node : Node) → get table k ≡ Some old → SameKind old node → HoldsNode v Content (InTable (insert table k node)) c k node → IsFileTree now_next (insert table k node)
        → IsTable (reading u Content) (at_root at) next table → IsTable (reading v Content) (at_root at) now_next (insert table k node)
    table_kept next now_next table old node there same now whole was =
        whole_table (reading v Content) (at_root at) now_next (insert table k node)
        (nodes_replaced (InTable table) (InTable (insert table k node)) (targets_kept table k old node there same) table old node there now (nodes_of (reading u Content) (at_root at) next table was)) whole
