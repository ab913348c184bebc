-- Trees other than the super-root's, over changes of that one.
use Rattle.std.proofs.Common.{◌≡◌, ℕ, true, false, refl, sym, ◌∙◌, ap, subst, inl, inr, suc, List, [], ◌∷◌, Option, Some, None, slice_get}
use Rattle.std.specs.Prelude.{◌⊎◌}
use Rattle.h2_ref.specs.declared.reference.Ref.{Ref}
use Rattle.h2_set.specs.RefSet.{RefSet}
use Rattle.h2_set.specs.Forest.{Forest, refs, loaded, IsSound, KeepsLeaves, Reaches, IsRootOf}
use Rattle.h2_set.specs.Calls.{AllRenewed, Alike, InPlace, Stays, Renews, KeepsBeside, OnWay, inside, across}
use Rattle.h2_set.specs.StayLaws.{Alike-refl, InPlace-trans, Same-Stays, leaves_stay, leaves_stay_all, stands_below}
use Rattle.h2_set.specs.PathLaws.{reaches_stay}
use Rattle.h2_tree.specs.Changes.{Descends, arrived, onward, ChangesOnly, GoesAway, below_it, named, Removes}
use Rattle.h2_tree.specs.RootLaws.{inserted_roots, removed_roots, removed_place}
use Rattle.h2_inode.specs.declared.inode.Inode.{Inode}
use Rattle.h2_inode.specs.Nodes.{Fields, Told, held_by, HasInode, IsBare}
use Rattle.h2_inode.specs.BareLaws.{bare_stays}
use Rattle.h2_inode.specs.Loaded.{view_of}
use Rattle.h2_inode.specs.NodeLaws.{named_stays, named_back, inode_held}
use Rattle.h2_pfs.specs.Others.{BelongsToNone, KeepsOtherTrees}
use Rattle.h2_pfs.specs.Addition.{Founds}
use Rattle.h2_pfs.proofs.Renewed.{SameRules, fixed_rules}
use Rattle.h2_pfs.proofs.Added.{steps_rules, steps_renew}

-- What a step leaves of the tree of root c

-- the root stands where it stood, with the same set, and its tree has the same leaves and paths
pub record SameTree (f g : Forest) (c : ℕ) : Type 0 where
  pub place : InPlace f g c
  pub set : g.set c ≡ f.set c
  pub leaves : KeepsLeaves f g c
  pub paths : (key : ℕ) (o : Option Ref) → Reaches f key c o → Reaches g key c o

pub tree_trans : (f g h : Forest) (c : ℕ) → SameTree f g c → SameTree g h c → SameTree f h c
tree_trans f g h c a b = record {
  place = InPlace-trans f g h c a.place b.place;
  set = b.set ∙ a.set;
  leaves = λ l has. b.leaves l (a.leaves l has);
  paths = λ key o path. b.paths key o (a.paths key o path);
}

-- where all nodes stay
pub all_tree : (f g : Forest) (c : ℕ) → IsSound f → ((m : ℕ) → f.stands m ≡ true → Stays f g m) → f.stands c ≡ true → g.set c ≡ f.set c → SameTree f g c
all_tree f g c sound stays stands set = record {
  place = (stays c stands).place;
  set = set;
  leaves = leaves_stay_all f g sound stays c stands;
  paths = λ key o path. reaches_stay f g (λ m. f.stands m ≡ true) (stands_below f sound) stays stands path;
}

-- A change of another tree

-- references that are at their places in a list as long are the list
same_refs : (rs qs : List Ref) → AllRenewed rs qs → ((i : ℕ) (r : Ref) → slice_get rs i ≡ Some r → slice_get qs i ≡ Some r) → qs ≡ rs
same_refs [] [] renewed exact = refl
same_refs [] (q ∷ qs) renewed exact = absurd renewed
same_refs (r ∷ rs) [] renewed exact = absurd renewed
same_refs (r ∷ rs) (q ∷ qs) renewed exact =
    let head : slice_get (q ∷ qs) 0 ≡ Some r = exact 0 r refl in
    let first : q ≡ r = (cc) in
    let rest : qs ≡ rs = same_refs rs qs renewed.1 (λ i x read. exact (suc i) x read) in
    both q r qs rs first rest
  where
    both : (q r : Ref) (qs rs : List Ref) → q ≡ r → qs ≡ rs → q ∷ qs ≡ r ∷ rs
    both q r qs rs a b = rw (a, b) refl

-- a node keeps what is at the end of the way down, up to its tree and what it belongs to
way_end : {f : Forest} {key at n : ℕ} → IsSound f → f.stands at ≡ true → Descends f key at n → (f.root n ≡ f.root at) × ((t k : ℕ) → f.belongs n t k ≡ f.belongs at t k)
way_end sound stands arrived = (refl, λ t k. refl)
way_end {f} sound stands (onward {at = at} {c = c} {r = r} i read in_r ind link way) =
    let child = (sound.node at stands).child r.key c link in
    let rest = way_end sound child.stands way in
    (rest.0 ∙ child.root, λ t k. rest.1 t k ∙ child.belongs t k)

module _ (f g : Forest) (n top c : ℕ) (goes : ℕ → Type 0) (sound : IsSound f) (after : IsSound g) (only : ChangesOnly f g n goes) (at : f.root n ≡ top) (belongs : (t k : ℕ) → f.belongs n t k ≡ true → ⊥)
    (stands : f.stands c ≡ true) (root : f.root c ≡ c) (other : c ≡ top → ⊥) (stay : (m : ℕ) → f.stands m ≡ true → ((t k : ℕ) → f.belongs m t k ≡ f.belongs c t k) → f.root m ≡ c → goes m → ⊥) where
  -- a node of the tree
  abbrev Of : ℕ → Type 0
  Of m = (f.stands m ≡ true) × (f.root m ≡ c) × ((t k : ℕ) → f.belongs m t k ≡ f.belongs c t k)

  Of-closed : (m k d : ℕ) → Of m → f.link m k ≡ loaded d → Of d
  Of-closed m k d of link =
      let child = (sound.node m of.0).child k d link in
      (child.stands, child.root ∙ of.1, λ t key. child.belongs t key ∙ of.2 t key)

  apart : (m : ℕ) → Of m → f.root m ≡ f.root n → ⊥
  apart m of same = other (sym of.1 ∙ same ∙ at)

  renews : (m : ℕ) → Of m → Renews f g m
  renews m of = only.others m of.0 (apart m of) (stay m of.0 of.2 of.1)

  no_way : (m : ℕ) (r : Ref) → Of m → OnWay f m r n → ⊥
  no_way m r of (inside same ind in_r bits) = apart m of same
  no_way m r of (across key apart_too in_r is) = belongs (f.root m) key is

  refs_stay : (m : ℕ) → Of m → refs g m ≡ refs f m
  refs_stay m of =
      same_refs (refs f m) (refs g m) (renews m of).renewed (λ i r read. only.exact m i r of.0 (λ e. apart m of (ap f.root e)) (stay m of.0 of.2 of.1) read (no_way m r of))

  stays : (m : ℕ) → Of m → Stays f g m
  stays m of = record {
    place = (renews m of).place;
    alike = subst (λ rs. Alike (refs f m) rs) (sym (refs_stay m of)) (Alike-refl (refs f m));
    near = λ k d e. (renews m of).link k ∙ e;
    far = λ k l e. inl ((renews m of).link k ∙ e);
  }

  own : Of c
  own = (stands, root, λ t k. refl)

  same_set : (s t : RefSet) → t.refs ≡ s.refs → t.capacity ≡ s.capacity → t ≡ s
  same_set s t r k = λ i. record { refs = r i; capacity = k i }

  -- the tree stays
  pub changed_tree : SameTree f g c
  changed_tree =
      let place = (renews c own).place in
      record {
        place = place;
        set = same_set (f.set c) (g.set c) (refs_stay c own) ((after.node c place.stands).root_capacity (place.root ∙ root) ∙ sym ((sound.node c stands).root_capacity root));
        leaves = λ l has. leaves_stay f g Of Of-closed stays own has (refs g c) (stays c own).alike;
        paths = λ key o path. reaches_stay f g Of Of-closed stays own path;
      }

-- the inode of a root whose tree stays
tree_inode : {B : Type 0} (fields : B → Option Fields) (f g : Forest) (old new : ℕ → B) (c : ℕ) (i : Inode) → SameTree f g c → SameRules f g c → KeepsBeside f g old new → HasInode f (held_by fields old) c i → HasInode g (held_by fields new) c i
tree_inode fields f g old new c i same rules beside has =
    inode_held f g (held_by fields old) (held_by fields new) c i same.place rules.leaf_bits rules.allows same.set (ap fields (beside.same c has.stands same.place.stands)) has

-- no other root that a leaf of another tree names is the super-root, or goes with a leaf of the super-root's tree
named_apart : (f : Forest) (top c key d : ℕ) → IsSound f → BelongsToNone f top → f.root top ≡ top → IsRootOf f c key d → f.root d ≡ f.root top → ⊥
named_apart f top c key d sound none root is same =
    none c key (subst (λ m. f.belongs m c key ≡ true) (sym is.root ∙ same ∙ root) ((is.belongs c key).1 (inl (refl, refl))))

pub named_left : (f : Forest) (top key c k d : ℕ) → (c ≡ top → ⊥) → (f.belongs c top key ≡ true → ⊥) → IsRootOf f c k d → f.belongs d top key ≡ true → ⊥
named_left f top key c k d other left is belongs =
    elim ((is.belongs top key).0 belongs) as (λ _. ⊥) [ inl same ↦ other (sym same.0) | inr own ↦ left own ]

-- A PFS goes

not_away : (f : Forest) (n place : ℕ) (leaf : Ref) (m : ℕ) → (f.root m ≡ f.root n → ⊥) → (f.belongs m (f.root n) leaf.key ≡ true → ⊥) → GoesAway f n place leaf m → ⊥
not_away f n place leaf m other left (below_it r read same bits in_r) = other same
not_away f n place leaf m other left (named apart is) = left is

-- all goes that belongs to the PFS
pub all_goes : (f g : Forest) (top : ℕ) (leaf : Ref) → IsSound f → f.stands top ≡ true → f.root top ≡ top → Removes f g top leaf → (m : ℕ) → f.stands m ≡ true → f.belongs m top leaf.key ≡ true → g.stands m ≡ false
all_goes f g top leaf sound stands_top root_top rem m st belongs =
    let goes = rem.goes in
    let h = goes.then in
    let n = goes.node in
    let top_h = (goes.walks.stays top stands_top).place in
    let at : h.root n ≡ top = (way_end goes.walks.sound top_h.stands goes.way).0 ∙ top_h.root ∙ root_top in
    let here = (goes.walks.stays m st).place in
    let other = (sound.owner m top leaf.key st belongs).other in
    goes.gone m here.stands (named (λ e. other (sym here.root ∙ e ∙ at)) (subst (λ t. h.belongs m t leaf.key ≡ true) (sym at) (here.belongs top leaf.key ∙ belongs)))

-- other trees stay but for those that belong to the PFS
pub removes_others : {B : Type 0} (fields : B → Option Fields) (f g : Forest) (old new : ℕ → B) (was now : Ref → Option Told) (top : ℕ) (leaf : Ref) → IsSound f → f.stands top ≡ true → f.root top ≡ top → KeepsBeside f g old new → Removes f g top leaf → KeepsOtherTrees (view_of fields f old was) (view_of fields g new now) top (λ c. f.belongs c top leaf.key ≡ true)
removes_others fields f g old new was now top leaf sound stands_top root_top beside rem none c stands root other left =
    let goes = rem.goes in
    let h = goes.then in
    let n = goes.node in
    let walks = goes.walks in
    let first = all_tree f h c sound walks.stays stands (walks.sets c stands) in
    let top_h = (walks.stays top stands_top).place in
    let end = way_end walks.sound top_h.stands goes.way in
    let at : h.root n ≡ top = end.0 ∙ top_h.root ∙ root_top in
    let bare = λ (t k : ℕ) (e : h.belongs n t k ≡ true). none t k (sym (top_h.belongs t k) ∙ sym (end.1 t k) ∙ e) in
    let here = λ (m : ℕ) (st : h.stands m ≡ true) (same : (t k : ℕ) → h.belongs m t k ≡ h.belongs c t k) (root_m : h.root m ≡ c) (away : GoesAway h n goes.place leaf m).
    not_away h n goes.place leaf m (λ e. other (sym root_m ∙ e ∙ at)) (λ e. left (sym (first.place.belongs top leaf.key) ∙ sym (same top leaf.key) ∙ subst (λ t. h.belongs m t leaf.key ≡ true) at e)) away in
    let second = changed_tree h g n top c (GoesAway h n goes.place leaf) walks.sound rem.sound goes.only at bare first.place.stands (first.place.root ∙ root) other here in
    let tree = tree_trans f h g c first second in
    let before = λ (key d : ℕ) (is : IsRootOf g c key d).
    let stood = removed_roots f g top leaf rem d is.stands is.root in
    named_back f g c key d tree.place stood (removed_place f g top leaf rem d stood is.stands) is in
    let below = λ (key d : ℕ) (is : IsRootOf f c key d).
    (rem.above d is.stands (named_apart f top c key d sound none root_top is) (λ e. named_left f top leaf.key c key d other left is (subst (λ t. f.belongs d t leaf.key ≡ true) root_top e))).place in
    record {
      place = tree.place;
      inode = λ i has. tree_inode fields f g old new c i tree (fixed_rules f g c stands tree.place.stands rem.fixed) beside has;
      leaves = tree.leaves;
      paths = tree.paths;
      named = λ key d is. named_stays f g c key d tree.place (below key d is) is;
      unloaded = λ key none_d d is. none_d d (before key d is);
      bare = λ key b. bare_stays f g c key (removed_roots f g top leaf rem) (removed_place f g top leaf rem) b;
    }

-- A PFS comes

-- a root that a leaf of another tree names isn't the one that was planted
put_before : (f g : Forest) (top own c key d : ℕ) → {new : ℕ} → ((t k : ℕ) → IsRootOf g t k new → (t ≡ top) × (k ≡ own)) → ((m : ℕ) → g.stands m ≡ true → (m ≡ new) ⊎ (f.stands m ≡ true)) → (c ≡ top → ⊥) → IsRootOf g c key d → f.stands d ≡ true
put_before f g top own c key d only came other is = elim (came d is.stands) as (λ _. f.stands d ≡ true) [
  | inl e ↦ absurd (other (only c key (subst (λ m. IsRootOf g c key m) e is)).0)
  | inr stood ↦ stood
]

-- a root that stood before that one was planted stood at first, in its place
founded_place : (f g : Forest) (holds : ℕ → Option Fields) (top : ℕ) (leaf : Ref) (inode : Inode) (it : Founds f g holds top leaf inode) → f.stands top ≡ true → (d : ℕ) → (let p = it.put in p.stands d ≡ true) → g.root d ≡ d → (f.stands d ≡ true) × InPlace f g d
founded_place f g holds top leaf inode it stands_top d in_put own =
    let a = it.ready in
    let top_a = (it.readies.same top stands_top).place in
    let last = (it.plants.brings.same d in_put).place in
    let in_a = inserted_roots a it.put top leaf None it.readies.sound top_a.stands it.inserts d in_put (sym last.root ∙ own) in
    let stood = it.readies.none_new d in_a in
    (stood, InPlace-trans f it.put g d (InPlace-trans f a it.put d (it.readies.same d stood).place (it.inserts.still d in_a)) last)

-- the root that was planted belongs to no leaf of another tree
founded_bare : (f g : Forest) (holds : ℕ → Option Fields) (top : ℕ) (leaf : Ref) (inode : Inode) (c : ℕ) (it : Founds f g holds top leaf inode) → f.stands top ≡ true → BelongsToNone f top → (c ≡ top → ⊥) → (key : ℕ) → IsBare f c key → IsBare g c key
founded_bare f g holds top leaf inode c it stands_top none other key bare d stands own belongs = elim (it.plants.brings.new d stands) as (λ _. ⊥) [
  | inl is_new ↦ elim ((it.plants.named.belongs c key).0 (subst (λ m. g.belongs m c key ≡ true) is_new belongs)) as (λ _. ⊥) [
    | inl same ↦ other same.0
    | inr above ↦
        let first = (it.readies.same top stands_top).place in
        let second = it.inserts.still top first.stands in
        let third = (it.plants.brings.same top second.stands).place in
        none c key (sym (first.belongs c key) ∙ sym (second.belongs c key) ∙ sym (third.belongs c key) ∙ above)
  ]
  | inr in_put ↦
      let was = founded_place f g holds top leaf inode it stands_top d in_put own in
      let place = was.1 in
      bare d was.0 (sym place.root ∙ own) (sym (place.belongs c key) ∙ belongs)
]

-- other trees stay
pub founds_others : {B : Type 0} (fields : B → Option Fields) (f g : Forest) (old new : ℕ → B) (was now : Ref → Option Told) (top : ℕ) (leaf : Ref) (inode : Inode) → IsSound f → f.stands top ≡ true → f.root top ≡ top → KeepsBeside f g old new → Founds f g (held_by fields new) top leaf inode → KeepsOtherTrees (view_of fields f old was) (view_of fields g new now) top (λ c. ⊥)
founds_others fields f g old new was now top leaf inode sound stands_top root_top beside it none c stands root other left =
    let a = it.ready in
    let goes = it.inserts.goes in
    let b = goes.then in
    let n = goes.node in
    let prep = goes.prepares in
    let first = all_tree f a c sound (λ m st. Same-Stays f a m (it.readies.same m st)) stands (it.readies.same c stands).set in
    let second = all_tree a b c it.readies.sound prep.stays first.place.stands (prep.sets c first.place.stands) in
    let two = tree_trans f a b c first second in
    let top_a = (it.readies.same top stands_top).place in
    let top_b = InPlace-trans f a b top top_a (prep.stays top top_a.stands).place in
    let end = way_end prep.sound top_b.stands goes.way in
    let at : b.root n ≡ top = end.0 ∙ top_b.root ∙ root_top in
    let bare = λ (t k : ℕ) (e : b.belongs n t k ≡ true). none t k (sym (top_b.belongs t k) ∙ sym (end.1 t k) ∙ e) in
    let third = changed_tree b it.put n top c (λ m. ⊥) prep.sound it.inserts.sound goes.only at bare two.place.stands (two.place.root ∙ root) other (λ m st same root_m away. away) in
    let fourth = all_tree it.put g c it.inserts.sound (λ m st. Same-Stays it.put g m (it.plants.brings.same m st)) third.place.stands (it.plants.brings.same c third.place.stands).set in
    let tree = tree_trans f it.put g c (tree_trans f b it.put c two third) fourth in
    let new_fields = held_by fields new in
    let before = λ (key d : ℕ) (is : IsRootOf g c key d).
    let in_put = put_before it.put g top leaf.key c key d it.plants.only it.plants.brings.new other is in
    let was = founded_place f g new_fields top leaf inode it stands_top d in_put is.root in
    named_back f g c key d tree.place was.0 was.1 is in
    record {
      place = tree.place;
      inode = λ i has. tree_inode fields f g old new c i tree (steps_rules f g new_fields top leaf inode c it stands) beside has;
      leaves = tree.leaves;
      paths = tree.paths;
      named = λ key d is. named_stays f g c key d tree.place (steps_renew f g new_fields top leaf inode d it is.stands (named_apart f top c key d sound none root_top is) stands_top).place is;
      unloaded = λ key none_d d is. none_d d (before key d is);
      bare = founded_bare f g new_fields top leaf inode c it stands_top none other;
    }
