-- The root of an inode that is loaded, or new, and the leaf that names it.
use Rattle.std.proofs.Common.{◌≡◌, ℕ, ◌+◌, ◌<◌, ◌≤◌, Bool, true, false, ◌&&◌, arith, refl, cond, sym, ◌∙◌, ap, List, [], ◌∷◌, ◌++◌, length, Option, Some, None, subst, inl, inr, slice_get, slice_set, suc, nat_eq}
use Rattle.std.specs.List.{position}
use Rattle.std.proofs.Math.ListN.{length-set}
use Rattle.std.proofs.lemmas.Bool.{or_cases}
use Rattle.std.proofs.lemmas.Option.{none-some, slice_get_within, slice_get_past}
use Rattle.h2_ref.specs.declared.faults.Why.{Why}
use Rattle.h2_ref.specs.declared.reference.Ref.{Ref}
use Rattle.h2_set.specs.Forest.{Forest, told, untold, IsSound, IsRootOf}
use Rattle.h2_set.specs.ChangeLaws.{same_or_not}
use Rattle.h2_inode.specs.Nodes.{IsInodeLeaf, Brings, Plants, Seeks}
use Rattle.h2_memory_sets.specs.declared.node.Node.{Node}
use Rattle.h2_memory_sets.specs.declared.node.Owner.{Owner}
use Rattle.h2_memory_sets.specs.Inodes.{owned_by, is_sought}
use Rattle.h2_memory_sets.specs.Kept.{AreKept}
use Rattle.h2_memory_sets.specs.Owners.{owner_of, is_owner, belongs_to}
use Rattle.h2_memory_sets.specs.View.{stands_of, root_of, writable_of, is_top, is_up, is_below, is_child, link_to, forest_with, AllRooted}
use Rattle.h2_memory_sets.proofs.Coming.{Comes, IsFitRoot, HasPath, brings_root, not_fresh, stands, root}
use Rattle.h2_memory_sets.proofs.Named.{named_by, owner_named, self_owner}
use Rattle.h2_memory_sets.proofs.Nodes.{get_set, get_set_other, position_same, is_there}
use Rattle.h2_memory_sets.proofs.Owned.{AreLower, belongs_step, belongs_same, chain_under, owner_is}
use Rattle.h2_memory_sets.proofs.Parting.{one_of, unlike, first_push, none_passes, none_false, get_last}
use Rattle.h2_memory_sets.proofs.Passing.{and_parts}
use Rattle.h2_memory_sets.proofs.Rooted.{get_push}

-- a node with no other above it is below none
bare_child : (l : Bool) (u : Option ℕ) (m : ℕ) (e : Bool) → u ≡ None → (l && (is_up m u && e)) ≡ false
bare_child l None m e h = go l
  where
    go : (l : Bool) → (l && (false && e)) ≡ false
    go true = refl
    go false = refl
bare_child l (Some u) m e h = absurd (none-some u (sym h))

away_child : (l u : Bool) → l ≡ false → (l && u) ≡ false
away_child true u e = absurd (cc)
away_child false u e = refl

-- a root at the end comes
pub pushed : (xs : List Node) (y : Node) → AllRooted xs → AreKept xs → AreLower xs → y.loaded ≡ true → y.up ≡ None → y.root ≡ length xs → y.bits ≡ 63 → y.copies ≡ 0 → y.held ≡ false → Comes xs (xs ++ y ∷ []) (length xs) y
pushed xs y rooted kept low on bare root bits copies unheld = record {
  at_c = get_last xs y;
  off_c = get_push xs y;
  fresh = fresh;
  loaded = on;
  root = root;
  bits = bits;
  copies = copies;
  unheld = unheld;
  first = first;
  bare = λ k. first (length xs) k ∙ none_passes (is_child (length xs) k) xs (λ i x read. none i x k read);
  belongs = λ m t k st. chain_under (is_owner t k) xs (xs ++ y ∷ []) (length xs) low (λ i lt. ap owner_of (get_push xs y i (λ e. omega (arith, e, lt)))) (suc (root_of (slice_get xs m))) (root_of (slice_get xs m)) (there m st);
}
  where
    fresh : stands_of (slice_get xs (length xs)) ≡ false
    fresh = ap stands_of (slice_get_past xs (length xs) (omega arith))

    first : (m k : ℕ) → position (is_child m k) (xs ++ y ∷ []) ≡ position (is_child m k) xs
    first m k = first_push (is_child m k) xs y (bare_child y.loaded y.up m (nat_eq y.low k) bare)

    none : (i : ℕ) (x : Node) (k : ℕ) → slice_get xs i ≡ Some x → is_child (length xs) k x ≡ false
    none i x k read = go x.up refl
      where
        go : (u : Option ℕ) → x.up ≡ u → is_child (length xs) k x ≡ false
        go None e = bare_child x.loaded x.up (length xs) (nat_eq x.low k) e
        go (Some u) e = let lt = kept.above i x u read e in ap (λ (o : Option ℕ). x.loaded && (is_up (length xs) o && nat_eq x.low k)) e ∙ other x.loaded (nat_eq u (length xs)) (nat_eq x.low k) (not_eq u (length xs) lt)
          where
            not_eq : (a b : ℕ) → a < b → nat_eq a b ≡ false
            not_eq a b lt = unlike a b (λ e. omega (arith, e, lt))

            other : (l a e : Bool) → a ≡ false → (l && (a && e)) ≡ false
            other l true e h = absurd (cc)
            other true false e h = refl
            other false false e h = refl

    there : (m : ℕ) → stands_of (slice_get xs m) ≡ true → root_of (slice_get xs m) < length xs
    there m st = is_there xs (root_of (slice_get xs m)) (top_on (slice_get xs (root_of (slice_get xs m))) (rooted m st))
      where
        top_on : (o : Option Node) → is_top o ≡ true → stands_of o ≡ true
        top_on None h = absurd (cc)
        top_on (Some x) h = (and_parts x.loaded _ h).0

-- a root that wasn't loaded comes
pub loaded_root : (xs : List Node) (c : ℕ) (x y : Node) → slice_get xs c ≡ Some x → x.loaded ≡ false → position (is_below c) xs ≡ None → y.owner ≡ x.owner → x.up ≡ None → y.loaded ≡ true → y.up ≡ None → y.root ≡ c → y.bits ≡ 63 → y.copies ≡ 0 → y.held ≡ false → Comes xs (slice_set xs c y) c y
loaded_root xs c x y read away under owner was_bare on bare root bits copies unheld = record {
  at_c = at_c;
  off_c = λ m ne. get_set_other xs c m y ne;
  fresh = ap stands_of read ∙ away;
  loaded = on;
  root = root;
  bits = bits;
  copies = copies;
  unheld = unheld;
  first = first;
  bare = λ k. first c k ∙ none_passes (is_child c k) xs (λ i z got. below_child z.loaded (is_up c z.up) (nat_eq z.low k) (none_false (is_below c) xs under i z got));
  belongs = λ m t k st. belongs_same xs (slice_set xs c y) owners (root_of (slice_get xs m)) t k;
}
  where
    at_c : slice_get (slice_set xs c y) c ≡ Some y
    at_c = get_set xs c y (slice_get_within xs c x read)

    owners : (m : ℕ) → owner_of (slice_get (slice_set xs c y) m) ≡ owner_of (slice_get xs m)
    owners m = elim (same_or_not m c) as (λ _. owner_of (slice_get (slice_set xs c y) m) ≡ owner_of (slice_get xs m)) [
      | inl e ↦ subst (λ z. owner_of (slice_get (slice_set xs c y) z) ≡ owner_of (slice_get xs z)) (sym e) (ap owner_of at_c ∙ owner ∙ sym (ap owner_of read))
      | inr ne ↦ ap owner_of (get_set_other xs c m y ne)
    ]

    below_child : (l u e : Bool) → (l && u) ≡ false → (l && (u && e)) ≡ false
    below_child true true e h = absurd (cc)
    below_child true false e h = refl
    below_child false u e h = refl

    first : (m k : ℕ) → position (is_child m k) (slice_set xs c y) ≡ position (is_child m k) xs
    first m k = sym (position_same (is_child m k) (is_child m k) xs (slice_set xs c y) (sym (length-set xs c y)) pointwise)
      where
        pointwise : (i : ℕ) (a b : Node) → slice_get xs i ≡ Some a → slice_get (slice_set xs c y) i ≡ Some b → is_child m k a ≡ is_child m k b
        pointwise i a b ra rb = elim (same_or_not i c) as (λ _. is_child m k a ≡ is_child m k b) [
          | inr off ↦ ap (is_child m k) (one_of a b (sym ra ∙ sym (get_set_other xs c i y off) ∙ rb))
          | inl e ↦
              let a_is = one_of x a (sym read ∙ subst (λ z. slice_get xs z ≡ Some a) e ra) in
              let b_is = one_of y b (sym at_c ∙ subst (λ z. slice_get (slice_set xs c y) z ≡ Some b) e rb) in
              sym (ap (is_child m k) a_is) ∙ bare_child x.loaded x.up m (nat_eq x.low k) was_bare ∙ sym (bare_child y.loaded y.up m (nat_eq y.low k) bare) ∙ ap (is_child m k) b_is
        ]

-- where no loaded root is found, the leaf names none
pub none_named : (xs : List Node) (spare epoch room failed bad : ℕ) (met : Option (ℕ × Why)) → AreLower xs → IsSound (forest_with xs spare epoch room failed bad met) → (top key d : ℕ) → position (is_sought top key) xs ≡ None → IsRootOf (forest_with xs spare epoch room failed bad met) top key d → ⊥
none_named xs spare epoch room failed bad met low sound top key d none is = go (slice_get xs d) refl
  where
    owner : owner_of (slice_get xs d) ≡ Some (record { root = top; key = key })
    owner = owner_named xs spare epoch room failed bad met low sound top key d is

    go : (o : Option Node) → slice_get xs d ≡ o → ⊥
    go None e = let clash : true ≡ false = sym is.stands ∙ ap stands_of e in cc
    go (Some x) e =
        let on : x.loaded ≡ true = sym (ap stands_of e) ∙ is.stands in
        let own : x.owner ≡ Some (record { root = top; key = key }) = sym (ap owner_of e) ∙ owner in
        let passes : is_sought top key x ≡ true = ap (λ b. b && owned_by top key x.owner) on ∙ ap (λ (o : Option Owner). owned_by top key o) own ∙ self_owner top key in
        let clash : true ≡ false = sym passes ∙ none_false (is_sought top key) xs none d x e in
        cc

not_told : (b : Bool) (o : Option ℕ) (l : List Ref) → cond b (link_to o) untold ≡ told l → ⊥
not_told true None l e = cc
not_told true (Some c) l e = cc
not_told false o l e = cc

module _ (xs ys : List Node) (c : ℕ) (y : Node) (spare spare' epoch room failed failed' bad bad' : ℕ) (met met' : Option (ℕ × Why)) (h : Comes xs ys c y) (sound : IsSound (forest_with xs spare epoch room failed bad met)) (fit : IsFitRoot y) (low : AreLower ys) (top : ℕ) (leaf : Ref) (named : IsInodeLeaf (forest_with xs spare epoch room failed bad met) top leaf) (owner : y.owner ≡ Some (record { root = top; key = leaf.key })) where
  abbrev f : Forest
  f = forest_with xs spare epoch room failed bad met

  abbrev g : Forest
  g = forest_with ys spare' epoch room failed' bad' met'

  at_owner : owner_of (slice_get ys c) ≡ Some (record { root = top; key = leaf.key })
  at_owner = ap owner_of h.at_c ∙ owner

  top_now : slice_get ys top ≡ slice_get xs top
  top_now = h.off_c top (not_fresh xs ys c y spare spare' epoch room failed failed' bad bad' met met' h sound top named.stands)

  -- what it belongs to, it belongs to by loaded paths
  paths : (t k : ℕ) → belongs_to ys c t k ≡ true → HasPath f t k
  paths t k b = elim (or_cases (is_owner t k (record { root = top; key = leaf.key })) (belongs_to ys top t k) (sym (belongs_step ys low c t k (record { root = top; key = leaf.key }) at_owner) ∙ b)) as (λ _. HasPath f t k) [
    | inl is ↦
        let same = owner_is t k (record { root = top; key = leaf.key }) is in
        subst (λ z. HasPath f z k) same.0 (subst (λ z. HasPath f top z) same.1 (record { stands = named.stands; root = named.root; leaf = leaf; key_is = refl; kind_is = named.kind; path = named.path }))
    | inr above ↦
        let was : f.belongs top t k ≡ true = sym (h.belongs top t k named.stands) ∙ ap (λ q. belongs_to ys q t k) named.root ∙ above in
        let it = sound.owner top t k named.stands was in
        record { stands = it.stands; root = it.root; leaf = it.leaf; key_is = it.key_is; kind_is = it.kind_is; path = it.path }
  ]

  pub arrives : Brings f g c
  arrives = brings_root xs ys c y spare spare' epoch room failed failed' bad bad' met met' h sound low fit paths

  pub named_now : IsRootOf g top leaf.key c
  named_now = named_by ys spare' epoch room failed' bad' met' low top leaf.key c at_owner (stands xs ys c y spare spare' epoch room failed failed' bad bad' met met' h sound) (root xs ys c y spare spare' epoch room failed failed' bad bad' met met' h sound) (ap root_of top_now ∙ named.root)

  pub only_now : (t k : ℕ) → IsRootOf g t k c → (t ≡ top) × (k ≡ leaf.key)
  only_now t k is =
      let same : Some (record { root = t; key = k }) ≡ Some (record { root = top; key = leaf.key }) = sym (owner_named ys spare' epoch room failed' bad' met' low arrives.sound t k c is) ∙ at_owner in
      owners_one t k top leaf.key same
    where
      owners_one : (t k t' k' : ℕ) → ◌≡◌ {A = Option Owner} (Some (record { root = t; key = k })) (Some (record { root = t'; key = k' })) → (t ≡ t') × (k ≡ k')
      owners_one t k t' k' e = let one : ◌≡◌ {A = Owner} (record { root = t; key = k }) (record { root = t'; key = k' }) = some_one _ _ e in (ap (λ (o : Owner). o.root) one, ap (λ (o : Owner). o.key) one)
        where
          some_one : (a b : Owner) → Some a ≡ Some b → a ≡ b
          some_one a b e = cc

  -- a new root
  pub plants : y.dirty ≡ true → spare' + 1 ≡ spare → failed' ≡ failed → bad' ≡ bad → met' ≡ met → Plants f g top leaf.key c
  plants dirty less failed_is bad_is met_is = record {
    brings = arrives;
    fresh = h.fresh;
    named = named_now;
    only = only_now;
    told_alike = λ m i j r l st read read' ind e. absurd (not_told _ _ l e);
    writable = ap writable_of h.at_c ∙ dirty;
    spare = less;
    failed = failed_is;
    bad = bad_is;
    met = met_is;
  }

  -- no other root that the leaf names was loaded
  pub seeks : y.dirty ≡ false → AreLower xs → position (is_sought top leaf.key) xs ≡ None → spare' ≡ spare → failed ≤ failed' → bad ≤ bad' → Seeks f g top leaf.key c
  seeks clean low_before none same more_failed more_bad = record {
    brings = arrives;
    named = named_now;
    only = λ fresh. only_now;
    loaded = λ d is. absurd (none_named xs spare epoch room failed bad met low_before sound top leaf.key d none is);
    clean = λ fresh. ap writable_of h.at_c ∙ clean;
    spare = same;
    failed = more_failed;
    bad = more_bad;
  }
