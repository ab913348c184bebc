-- A table after an inode is added to it or taken out has the others that it had.
use Rattle.std.specs.Prelude.{◌≡◌, ℕ, Bool, true, false, cond, if◌then◌else◌, nat_lt, List, [], ◌∷◌, Option, Some, None, refl, ◌==◌, ◌≢◌, ◌<◌, suc, length, slice_index_or, AllPairs}
use Rattle.std.proofs.Common.{arith, ap, sym, ◌∙◌, inl, inr, subst}
use Rattle.std.proofs.lemmas.Bool.Decides.{nat_tests}
use Rattle.std.proofs.lemmas.Option.{none-some}
use Rattle.std.specs.Ordering.{eq_by_cmp, nat_cmp}
use Rattle.std.specs.Cmp.{nat_cmp_total}
use Rattle.std.specs.FinMap.{nat_cmp-IsAntisymmetric, find, get, insert, from_entries, get-insert, get-from_entries, same_map, remove, get-remove}
use Rattle.h2_num.specs.Places.{Places}
use Rattle.h2_ref.specs.declared.reference.Kind.TheVariants.{Inode as Inode_kind}
use Rattle.h2_ref.specs.declared.reference.Ref.{Ref}
use Rattle.h2_set.specs.Ranges.{put, without}
use Rattle.h2_set.specs.Forest.{IsRootOf, LeavesOf}
use Rattle.h2_set.specs.Calls.{names_node}
use Rattle.h2_inode.specs.declared.inode.Inode.{Inode}
use Rattle.h2_inode.specs.Access.{OneByOne}
use Rattle.h2_inode.specs.Following.{SameInode}
use Rattle.h2_inode.specs.FollowLaws.{same_inode}
use Rattle.h2_inode.specs.Loaded.{Tree, at_root, IsTold, NamesInode, View, reading}
use Rattle.h2_inode.specs.Others.{with_set, IsTreeOf, over_renewal}
use Rattle.h2_inode.specs.RenewedLaws.{renewed_follow, same_with}
use Rattle.h2_forest.specs.declared.table.Node.{Node}
use Rattle.h2_forest.specs.Table.{Table}
use Rattle.h2_meaning.specs.Node.{IsMember}
use Rattle.h2_meaning.specs.FoundLaws.{numbers_differ}
use Rattle.h2_meaning.specs.CarryLaws.{node_carried}
use Rattle.h2_meaning.specs.Replaced.{RenewsAllBut, HoldsNodes, HoldsNode, KeepsNamedBut}
use Rattle.h2_meaning.specs.ReplacedLaws.{tied, untied, Beside, others_renewed, is_other}

-- the list with one member more, at the place of its number
abbrev put_node : ℕ × Node → List (ℕ × Node) → List (ℕ × Node)
put_node y [] = y ∷ []
put_node y (z ∷ zs) = if nat_lt y.0 z.0 then y ∷ z ∷ zs else (if nat_lt z.0 y.0 then z ∷ put_node y zs else y ∷ zs)

-- one more, one by one
each_put : (Q : Ref → ℕ × Node → Type 0) (leaf : Ref) (y : ℕ × Node) (rs : List Ref) (ms : List (ℕ × Node)) → y.0 ≡ leaf.key → Q leaf y → ((r : Ref) (m : ℕ × Node) → Q r m → m.0 ≡ r.key) → OneByOne Q rs ms → OneByOne Q (put leaf rs) (put_node y ms)
each_put Q leaf y [] [] key here keys all = (here, tt)
each_put Q leaf y [] (m ∷ ms) key here keys all = absurd all
each_put Q leaf y (r ∷ rs) [] key here keys all = absurd all
each_put Q leaf y (r ∷ rs) (m ∷ ms) key here keys all = decide (nat_lt leaf.key r.key) (nat_lt r.key leaf.key) refl refl (each_put Q leaf y rs ms key here keys all.1)
  where
    same : m.0 ≡ r.key
    same = keys r m all.0

    decide : (a b : Bool) → nat_lt leaf.key r.key ≡ a → nat_lt r.key leaf.key ≡ b → OneByOne Q (put leaf rs) (put_node y ms) → OneByOne Q (put leaf (r ∷ rs)) (put_node y (m ∷ ms))
    decide true b e e2 rest =
        let e' : nat_lt y.0 m.0 ≡ true = ap (λ z. nat_lt z m.0) key ∙ ap (λ z. nat_lt leaf.key z) same ∙ e in
        rw (e, e') (here, all)
    decide false true e e2 rest =
        let e' : nat_lt y.0 m.0 ≡ false = ap (λ z. nat_lt z m.0) key ∙ ap (λ z. nat_lt leaf.key z) same ∙ e in
        let f' : nat_lt m.0 y.0 ≡ true = ap (λ z. nat_lt z y.0) same ∙ ap (λ z. nat_lt r.key z) key ∙ e2 in
        rw (e, e', e2, f') (all.0, rest)
    decide false false e e2 rest =
        let e' : nat_lt y.0 m.0 ≡ false = ap (λ z. nat_lt z m.0) key ∙ ap (λ z. nat_lt leaf.key z) same ∙ e in
        let f' : nat_lt m.0 y.0 ≡ false = ap (λ z. nat_lt z y.0) same ∙ ap (λ z. nat_lt r.key z) key ∙ e2 in
        rw (e, e', e2, f') (here, all.1)

-- what is found then
module _ (k : ℕ) (node : Node) (q : ℕ) where
  swapped : (m : ℕ × Node) (o : Option Node) → (m.0 ≡ k → ⊥) → (a b : Bool) → eq_by_cmp nat_cmp q m.0 ≡ a → eq_by_cmp nat_cmp q k ≡ b → cond a (Some m.1) (cond b (Some node) o) ≡ cond b (Some node) (cond a (Some m.1) o)
  swapped m o apart true true e f = absurd (apart (sym (tied q m.0 e) ∙ tied q k f))
  swapped m o apart true false e f = refl
  swapped m o apart false true e f = refl
  swapped m o apart false false e f = refl

  hidden : (m : ℕ × Node) (o : Option Node) (a b : Bool) → a ≡ b → cond b (Some node) o ≡ cond b (Some node) (cond a (Some m.1) o)
  hidden m o true true e = refl
  hidden m o false false e = refl
  hidden m o true false e = absurd (cc)
  hidden m o false true e = refl

  find_put : (ms : List (ℕ × Node)) → find nat_cmp q (put_node (k, node) ms) ≡ cond (eq_by_cmp nat_cmp q k) (Some node) (find nat_cmp q ms)
  find_put [] = refl
  find_put (m ∷ ms) = decide (nat_lt k m.0) (nat_lt m.0 k) refl refl (find_put ms)
    where
      decide : (a b : Bool) → nat_lt k m.0 ≡ a → nat_lt m.0 k ≡ b → find nat_cmp q (put_node (k, node) ms) ≡ cond (eq_by_cmp nat_cmp q k) (Some node) (find nat_cmp q ms)
          → find nat_cmp q (if a then (k, node) ∷ m ∷ ms else (if b then m ∷ put_node (k, node) ms else (k, node) ∷ ms)) ≡ cond (eq_by_cmp nat_cmp q k) (Some node) (find nat_cmp q (m ∷ ms))
      decide true b e f rest = refl
      decide false true e f rest =
          ap (cond (eq_by_cmp nat_cmp q m.0) (Some m.1)) rest
          ∙ swapped m (find nat_cmp q ms) (λ (same : m.0 ≡ k). let lt : nat_lt m.0 k ≡ true = f in grind (arith, nat_tests)) (eq_by_cmp nat_cmp q m.0) (eq_by_cmp nat_cmp q k) refl refl
      decide false false e f rest =
          let same : m.0 ≡ k = grind (arith, nat_tests) in
          hidden m (find nat_cmp q ms) (eq_by_cmp nat_cmp q m.0) (eq_by_cmp nat_cmp q k) (ap (eq_by_cmp nat_cmp q) same)

table_put : (k : ℕ) (node : Node) (ms : List (ℕ × Node)) → insert (from_entries {R = nat_cmp} ms) k node ≡ from_entries (put_node (k, node) ms)
table_put k node ms = same_map nat_cmp_total nat_cmp-IsAntisymmetric (insert (from_entries ms) k node) (from_entries (put_node (k, node) ms)) (λ q.
    get-insert nat_cmp_total (from_entries ms) k node q
    ∙ ap (cond (eq_by_cmp nat_cmp q k) (Some node)) (get-from_entries nat_cmp_total ms q)
    ∙ sym (get-from_entries nat_cmp_total (put_node (k, node) ms) q ∙ find_put k node q ms))

-- the list without the member with the number
abbrev without_node : ℕ → List (ℕ × Node) → List (ℕ × Node)
without_node k [] = []
without_node k (m ∷ ms) = if m.0 == k then ms else m ∷ without_node k ms

pairs_behind : (m : ℕ × Node) (ms : List (ℕ × Node)) → AllPairs (λ (x y : ℕ × Node). x.0 ≢ y.0) (m ∷ ms) → AllPairs (λ (x y : ℕ × Node). x.0 ≢ y.0) ms
pairs_behind m ms differ = λ i j d lt len. differ (suc i) (suc j) d (omega (arith, lt)) (omega (arith, len))

-- no later member has the number of the first
none_behind : (k : ℕ) (ms : List (ℕ × Node)) → ((j : ℕ) (d : ℕ × Node) → j < length ms → k ≢ (slice_index_or ms j d).0) → find nat_cmp k ms ≡ None
none_behind k [] apart = refl
none_behind k (m ∷ ms) apart = by (eq_by_cmp nat_cmp k m.0) refl (none_behind k ms (λ j d lt. apart (suc j) d (omega (arith, lt))))
  where
    by : (b : Bool) → eq_by_cmp nat_cmp k m.0 ≡ b → find nat_cmp k ms ≡ None → find nat_cmp k (m ∷ ms) ≡ None
    by true e rest = absurd (apart 0 m (omega arith) (tied k m.0 e))
    by false e rest = ap (λ z. cond z (Some m.1) (find nat_cmp k ms)) e ∙ rest

module _ (k q : ℕ) where
  both_apart : (m : ℕ × Node) (o : Option Node) → (m.0 ≡ k → ⊥) → (a b : Bool) → eq_by_cmp nat_cmp q m.0 ≡ a → eq_by_cmp nat_cmp q k ≡ b → cond a (Some m.1) (cond b None o) ≡ cond b None (cond a (Some m.1) o)
  both_apart m o apart true true e f = absurd (apart (sym (tied q m.0 e) ∙ tied q k f))
  both_apart m o apart true false e f = refl
  both_apart m o apart false true e f = refl
  both_apart m o apart false false e f = refl

  find_without : (ms : List (ℕ × Node)) → AllPairs (λ (x y : ℕ × Node). x.0 ≢ y.0) ms → find nat_cmp q (without_node k ms) ≡ cond (eq_by_cmp nat_cmp q k) None (find nat_cmp q ms)
  find_without [] differ = nothing (eq_by_cmp nat_cmp q k)
    where
      nothing : (b : Bool) → find nat_cmp q (without_node k []) ≡ cond b None (find nat_cmp q (without_node k []))
      nothing true = refl
      nothing false = refl
  find_without (m ∷ ms) differ = decide (m.0 == k) refl (find_without ms (pairs_behind m ms differ))
    where
      gone : m.0 ≡ k → (a b : Bool) → eq_by_cmp nat_cmp q m.0 ≡ a → eq_by_cmp nat_cmp q k ≡ b → find nat_cmp q ms ≡ cond b None (cond a (Some m.1) (find nat_cmp q ms))
      gone same a true e f = subst (λ n. find nat_cmp n ms ≡ None) (same ∙ sym (tied q k f)) (none_behind m.0 ms (λ j d lt. differ 0 (suc j) d (omega arith) (omega (arith, lt))))
      gone same true false e f = absurd (untied q k f (tied q m.0 e ∙ same))
      gone same false false e f = refl

      decide : (b : Bool) → (m.0 == k) ≡ b → find nat_cmp q (without_node k ms) ≡ cond (eq_by_cmp nat_cmp q k) None (find nat_cmp q ms)
          → find nat_cmp q (if b then ms else m ∷ without_node k ms) ≡ cond (eq_by_cmp nat_cmp q k) None (find nat_cmp q (m ∷ ms))
      decide true e rest = gone (grind (arith, nat_tests)) (eq_by_cmp nat_cmp q m.0) (eq_by_cmp nat_cmp q k) refl refl
      decide false e rest =
          ap (cond (eq_by_cmp nat_cmp q m.0) (Some m.1)) rest
          ∙ both_apart m (find nat_cmp q ms) (λ (same : m.0 ≡ k). grind (arith, nat_tests)) (eq_by_cmp nat_cmp q m.0) (eq_by_cmp nat_cmp q k) refl refl

table_without : (k : ℕ) (ms : List (ℕ × Node)) → AllPairs (λ (x y : ℕ × Node). x.0 ≢ y.0) ms → remove (from_entries {R = nat_cmp} ms) k ≡ from_entries (without_node k ms)
table_without k ms differ = same_map nat_cmp_total nat_cmp-IsAntisymmetric (remove (from_entries ms) k) (from_entries (without_node k ms)) (λ q.
    get-remove nat_cmp_total (from_entries ms) k q
    ∙ ap (cond (eq_by_cmp nat_cmp q k) None) (get-from_entries nat_cmp_total ms q)
    ∙ sym (get-from_entries nat_cmp_total (without_node k ms) q ∙ find_without k q ms differ))

module _ (u v : View) (P : ℕ → Type 0) (t : ℕ) (h : RenewsAllBut u v P t) (but : ℕ) (g : KeepsNamedBut u v P t but) (Content : Ref → Places → Type 0) (blocks : (r : Ref) (x : Places) → Content r x → names_node r.kind ≡ false) where
  still_beside : (key d : ℕ) → (key ≡ but → ⊥) → IsRootOf u.forest t key d → Beside u P t d
  still_beside key d ne is =
      let below : u.forest.belongs d t key ≡ true = (is.belongs t key).1 (inl (refl, refl)) in
      ((g.named key d ne is).1, (λ same. is_other u.forest h.sound t key d is (sym same)), λ j up. (h.sound.owner t t key g.stands (h.sound.chain t d j t key g.stands up below)).other g.root)

  inode_still : (r : Ref) (i : Inode) (b : Tree) → (r.key ≡ but → ⊥) → NamesInode u.forest u.holds u.tells (at_root t) r i b
      → (j : Inode) × (d : Tree) × NamesInode v.forest v.holds v.tells (at_root t) r j d × SameInode i j × IsTreeOf (Beside u P t) b d
  inode_still r i b ne (inl x) =
      let d = x.0 in
      let is = still_beside r.key d ne x.1 in
      (with_set i (v.forest.set d), at_root d, inl (d, (g.named r.key d ne x.1).0, (h.trees d is.0 is.1).inode i x.2, refl), same_with i (v.forest.set d), subst (λ z. IsTreeOf (Beside u P t) z (at_root d)) (sym x.3) (refl, is))
  inode_still r i b ne (inr x) =
      let y = x.1 in
      let told : IsTold v.tells r i b = (y.0, h.told r y.0 y.1, y.2, y.3) in
      (i, b, inr (g.unloaded r.key ne x.0, told), same_inode i, subst (λ z. IsTreeOf (Beside u P t) z z) (sym y.3) refl)

  module _ (S T : ℕ → ℕ → Type 0) (targets : (target number : ℕ) → S target number → T target number) where
    member_still : (r : Ref) (m : ℕ × Node) → (r.key ≡ but → ⊥) → IsMember (reading u Content) S (at_root t) r m → IsMember (reading v Content) T (at_root t) r m
    member_still r m ne was =
        let x = inode_still r was.inode was.tree ne was.read in
        let alike : SameInode was.inode x.0 = x.3 in
        record {
          kind_is = was.kind_is;
          inode = x.0;
          tree = x.1;
          read = x.2;
          number_is = was.number_is;
          numbered = alike.number ∙ was.numbered;
          node_is = node_carried (over_renewal u v (Beside u P t) Content) (renewed_follow u v (Beside u P t) (others_renewed u v P t h g.stands) Content blocks) S T targets was.tree x.1 was.inode x.0 m.1 x.4 alike was.node_is;
        }

    members_still : (rs : List Ref) (ms : List (ℕ × Node)) → find nat_cmp but ms ≡ None → OneByOne (IsMember (reading u Content) S (at_root t)) rs ms → OneByOne (IsMember (reading v Content) T (at_root t)) rs ms
    members_still [] [] none p = tt
    members_still [] (m ∷ ms) none p = absurd p
    members_still (r ∷ rs) [] none p = absurd p
    members_still (r ∷ rs) (m ∷ ms) none p = by (eq_by_cmp nat_cmp but m.0) refl (λ free. members_still rs ms free p.1)
      where
        by : (b : Bool) → eq_by_cmp nat_cmp but m.0 ≡ b → (find nat_cmp but ms ≡ None → OneByOne (IsMember (reading v Content) T (at_root t)) rs ms) → OneByOne (IsMember (reading v Content) T (at_root t)) (r ∷ rs) (m ∷ ms)
        by true e rest = absurd (none-some m.1 (sym none ∙ ap (λ z. cond z (Some m.1) (find nat_cmp but ms)) e))
        by false e rest = (member_still r m (λ same. untied but m.0 e (sym same ∙ sym p.0.number_is)) p.0, rest (sym (ap (λ z. cond z (Some m.1) (find nat_cmp but ms)) e) ∙ none))

    pub nodes_added : (leaf : Ref) → but ≡ leaf.key → ((l : List Ref) → LeavesOf u.forest t l → LeavesOf v.forest t (put leaf l)) → (d : ℕ) (table : Table) (node : Node) → get table leaf.key ≡ None → leaf.kind ≡ Inode_kind → IsRootOf v.forest t leaf.key d → HoldsNode v Content T d leaf.key node
        → HoldsNodes (reading u Content) S (at_root t) table → HoldsNodes (reading v Content) T (at_root t) (insert table leaf.key node)
    nodes_added leaf key leaves_are d table node none kind named now was =
        let has = was.has in
        let leaves = leaves_are has.leaves has.has.read in
        let free : find nat_cmp leaf.key was.members ≡ None = sym (get-from_entries nat_cmp_total was.members leaf.key) ∙ sym (ap (λ x. get x leaf.key) was.table_is) ∙ none in
        record {
          members = put_node (leaf.key, node) was.members;
          has = record {
            leaves = put leaf has.leaves;
            has = record { read = leaves; ordered = g.ordered (put leaf has.leaves) leaves };
            each = each_put (IsMember (reading v Content) T (at_root t)) leaf (leaf.key, node) has.leaves was.members refl
                (record { kind_is = kind; inode = now.inode; tree = at_root d; read = inl (d, named, now.held, refl); number_is = refl; numbered = now.numbered; node_is = now.node_is })
                (λ r m is. is.number_is) (members_still has.leaves was.members (subst (λ n. find nat_cmp n was.members ≡ None) (sym key) free) has.each);
          };
          table_is = ap (λ x. insert x leaf.key node) was.table_is ∙ table_put leaf.key node was.members;
        }

    -- An inode is taken out

    members_without : (rs : List Ref) (ms : List (ℕ × Node)) → AllPairs (λ (x y : ℕ × Node). x.0 ≢ y.0) ms → OneByOne (IsMember (reading u Content) S (at_root t)) rs ms
        → OneByOne (IsMember (reading v Content) T (at_root t)) (without but rs) (without_node but ms)
    members_without [] [] differ p = tt
    members_without [] (m ∷ ms) differ p = absurd p
    members_without (r ∷ rs) [] differ p = absurd p
    members_without (r ∷ rs) (m ∷ ms) differ p = by (m.0 == but) refl (members_without rs ms (pairs_behind m ms differ) p.1)
      where
        key : m.0 ≡ r.key
        key = p.0.number_is

        by : (b : Bool) → (m.0 == but) ≡ b → OneByOne (IsMember (reading v Content) T (at_root t)) (without but rs) (without_node but ms)
            → OneByOne (IsMember (reading v Content) T (at_root t)) (if r.key == but then rs else r ∷ without but rs) (if m.0 == but then ms else m ∷ without_node but ms)
        by true e rest =
            let same : m.0 ≡ but = grind (arith, nat_tests) in
            let e' : (r.key == but) ≡ true = subst (λ n. (n == but) ≡ true) key e in
            let free : find nat_cmp but ms ≡ None = subst (λ n. find nat_cmp n ms ≡ None) same (none_behind m.0 ms (λ k d lt. differ 0 (suc k) d (omega arith) (omega (arith, lt)))) in
            rw (e, e') (members_still rs ms free p.1)
        by false e rest =
            let e' : (r.key == but) ≡ false = subst (λ n. (n == but) ≡ false) key e in
            let ne : r.key ≡ but → ⊥ = λ (same : r.key ≡ but). grind (arith, nat_tests) in
            rw (e, e') (member_still r m ne p.0, rest)

    pub nodes_removed : ((l : List Ref) → LeavesOf u.forest t l → LeavesOf v.forest t (without but l)) → (table : Table)
        → HoldsNodes (reading u Content) S (at_root t) table → HoldsNodes (reading v Content) T (at_root t) (remove table but)
    nodes_removed leaves_are table was =
        let has = was.has in
        let leaves = leaves_are has.leaves has.has.read in
        let differ = numbers_differ (reading u Content) S (at_root t) was.members has in
        record {
          members = without_node but was.members;
          has = record {
            leaves = without but has.leaves;
            has = record { read = leaves; ordered = g.ordered (without but has.leaves) leaves };
            each = members_without has.leaves was.members differ has.each;
          };
          table_is = ap (λ x. remove x but) was.table_is ∙ table_without but was.members differ;
        }
