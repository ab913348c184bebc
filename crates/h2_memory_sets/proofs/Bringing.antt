-- Forests in memory that differ by a node that was loaded.
use Rattle.std.proofs.Common.{◌≡◌, ℕ, ◌<◌, Bool, true, false, ◌&&◌, arith, refl, cond, sym, ◌∙◌, ap, List, length, Option, Some, None, subst, ◌⊎◌, inl, inr, slice_get, slice_set, nat_eq}
use Rattle.std.specs.Prelude.{not}
use Rattle.std.specs.List.{position}
use Rattle.std.proofs.Math.ListN.{length-set}
use Rattle.std.proofs.lemmas.Option.{slice_get_within}
use Rattle.h2_ref.specs.declared.faults.Why.{Why}
use Rattle.h2_ref.specs.declared.faults.Trouble.{Trouble}
use Rattle.h2_ref.specs.declared.faults.Trouble.TheVariants.{Bad}
use Rattle.h2_ref.specs.declared.reference.Ref.{Ref}
use Rattle.h2_set.specs.Ranges.{is_indirect}
use Rattle.h2_set.specs.Forest.{Link, loaded, told, untold, Forest, IsSound}
use Rattle.h2_set.specs.Calls.{Loads, Walks}
use Rattle.h2_set.specs.ChangeLaws.{same_or_not}
use Rattle.h2_set.specs.StayLaws.{Alike-refl}
use Rattle.h2_memory_sets.specs.declared.node.Node.{Node}
use Rattle.h2_memory_sets.specs.View.{stands_of, set_of, root_of, low_of, bits_of, writable_of, copies_of, leaf_bits_of, is_up, is_below, is_child, link_to, link_of, forest_with, brought, IsLoadable}
use Rattle.h2_memory_sets.specs.Owners.{owner_of, belongs_to, allows_of, held_of}
use Rattle.h2_memory_sets.proofs.Lists.{below_names}
use Rattle.h2_memory_sets.proofs.Loading.{DiffersByLoad, walks, loads}
use Rattle.h2_memory_sets.proofs.Nodes.{KeepsRoots, settled_of, position_same, get_set, get_set_other, field_stays}
use Rattle.h2_memory_sets.proofs.Owned.{belongs_same}
use Rattle.h2_memory_sets.proofs.Parting.{unlike, alike, fails, none_passes, none_false, position_one, one_of}

-- the parts of what a node that isn't loaded is
pub away_parts : (l u e : Bool) → (not l && (u && e)) ≡ true → (l ≡ false) × (u ≡ true) × (e ≡ true)
away_parts false true true h = (refl, refl, refl)
away_parts false true false h = absurd (cc)
away_parts false false e h = absurd (cc)
away_parts true u e h = absurd (cc)

pub up_is : (m : ℕ) (u : Option ℕ) → is_up m u ≡ true → u ≡ Some m
up_is m None h = absurd (cc)
up_is m (Some n) h = ap Some (alike n m h)

below_fails : (l u e : Bool) → (l && u) ≡ false → (l && (u && e)) ≡ false
below_fails true true e h = absurd (cc)
below_fails true false e h = refl
below_fails false u e h = refl

pub cond_same : (b : Bool) (l : Link) → cond b l l ≡ l
cond_same true l = refl
cond_same false l = refl

module _ (xs : List Node) (at c : ℕ) (r : Ref) (stands : stands_of (slice_get xs at) ≡ true) (l : IsLoadable xs at r c) (none : position (is_child at r.key) xs ≡ None) where
  parts : (l.node.loaded ≡ false) × (is_up at l.node.up ≡ true) × (nat_eq l.node.low r.key ≡ true)
  parts = away_parts l.node.loaded (is_up at l.node.up) (nat_eq l.node.low r.key) l.away

  fresh : stands_of (slice_get xs c) ≡ false
  fresh = ap stands_of l.read ∙ parts.0

  not_fresh : (m : ℕ) → stands_of (slice_get xs m) ≡ true → m ≡ c → ⊥
  not_fresh m st e = let clash : true ≡ false = sym st ∙ ap (λ z. stands_of (slice_get xs z)) e ∙ fresh in cc

  abbrev new : Node
  new = brought (root_of (slice_get xs at)) (copies_of (slice_get xs at)) r.keybits l.node

  abbrev ys : List Node
  ys = slice_set xs c (brought (root_of (slice_get xs at)) (copies_of (slice_get xs at)) r.keybits l.node)

  at_c : slice_get ys c ≡ Some new
  at_c = get_set xs c new (slice_get_within xs c l.node l.read)

  off_c : (m : ℕ) → (m ≡ c → ⊥) → slice_get ys m ≡ slice_get xs m
  off_c m ne = get_set_other xs c m new ne

  -- the loaded node is at that key below node at alone
  new_child : (m k : ℕ) → (m ≡ at → k ≡ r.key → ⊥) → is_child m k new ≡ false
  new_child m k ne = fails true (is_up m l.node.up) (nat_eq l.node.low k) (λ e. go (nat_eq l.node.low k) refl e (same_or_not m at))
    where
      go : (b : Bool) → nat_eq l.node.low k ≡ b → nat_eq l.node.low k ≡ true → (m ≡ at) ⊎ (m ≡ at → ⊥) → is_up m l.node.up ≡ false
      go b eb e (inl same) = absurd (ne same (sym (alike l.node.low k e) ∙ alike l.node.low r.key parts.2))
      go b eb e (inr off) = ap (is_up m) (up_is at l.node.up parts.1) ∙ unlike at m (λ q. off (sym q))

  old_child : (m k : ℕ) → is_child m k l.node ≡ false
  old_child m k = ap (λ b. b && (is_up m l.node.up && nat_eq l.node.low k)) parts.0

  first_same : (m k : ℕ) → (m ≡ at → k ≡ r.key → ⊥) → position (is_child m k) ys ≡ position (is_child m k) xs
  first_same m k ne = sym (position_same (is_child m k) (is_child m k) xs ys (sym (length-set xs c new)) pointwise)
    where
      pointwise : (i : ℕ) (a b : Node) → slice_get xs i ≡ Some a → slice_get ys i ≡ Some b → is_child m k a ≡ is_child m k b
      pointwise i a b ra rb = elim (same_or_not i c) as (λ _. is_child m k a ≡ is_child m k b) [
        | inr off ↦ ap (is_child m k) (one_of a b (sym ra ∙ sym (off_c i off) ∙ rb))
        | inl e ↦
            let a_is = one_of l.node a (sym l.read ∙ subst (λ z. slice_get xs z ≡ Some a) e ra) in
            let b_is = one_of new b (sym at_c ∙ subst (λ z. slice_get ys z ≡ Some b) e rb) in
            sym (ap (is_child m k) a_is) ∙ old_child m k ∙ sym (new_child m k ne) ∙ ap (is_child m k) b_is
      ]

  first_new : position (is_child at r.key) ys ≡ Some c
  first_new = position_one (is_child at r.key) ys c new at_c passes (λ i y ne got. none_false (is_child at r.key) xs none i y (sym (off_c i ne) ∙ got))
    where
      passes : is_child at r.key new ≡ true
      passes = rw (parts.1, parts.2) refl

  first_bare : (k : ℕ) → position (is_child c k) ys ≡ None
  first_bare k = none_passes (is_child c k) ys go
    where
      go : (i : ℕ) (y : Node) → slice_get ys i ≡ Some y → is_child c k y ≡ false
      go i y got = elim (same_or_not i c) as (λ _. is_child c k y ≡ false) [
        | inr off ↦ below_fails y.loaded (is_up c y.up) (nat_eq y.low k) (none_false (is_below c) xs l.bare i y (sym (off_c i off) ∙ got))
        | inl e ↦ sym (ap (is_child c k) (one_of new y (sym at_c ∙ subst (λ z. slice_get ys z ≡ Some y) e got))) ∙ new_child c k (λ q _. not_fresh at stands (sym q))
      ]

  leaf : (m : ℕ) → leaf_bits_of (slice_get ys m) ≡ leaf_bits_of (slice_get xs m)
  leaf = field_stays leaf_bits_of xs c l.node new l.read refl

  roots : KeepsRoots xs ys
  roots = record {
    leaf_bits = leaf;
    owner = field_stays owner_of xs c l.node new l.read refl;
    held = field_stays held_of xs c l.node new l.read (sym (ap (λ b. b && l.node.held) parts.0));
  }

  allows_same : (m : ℕ) (q : Ref) → allows_of (slice_get ys m) q ≡ allows_of (slice_get xs m) q
  allows_same m q = field_stays (λ o. allows_of o q) xs c l.node new l.read refl m

  set_same : (m : ℕ) → set_of (slice_get ys m) ≡ set_of (slice_get xs m)
  set_same = field_stays set_of xs c l.node new l.read refl

  pub was_untold : link_of xs at r.key ≡ untold
  was_untold = rw none (cond_same _ untold)

  pub differs_by_load : (root_of (slice_get xs at) ≡ c → ⊥) → (spare epoch room failed bad : ℕ) (met : Option (ℕ × Why)) (i : ℕ) → slice_get (let s = set_of (slice_get xs at) in s.refs) i ≡ Some r → is_indirect r ≡ true → DiffersByLoad (forest_with xs spare epoch room failed bad met) (forest_with (slice_set xs c (brought (root_of (slice_get xs at)) (copies_of (slice_get xs at)) r.keybits l.node)) spare epoch room failed bad met) at c r
  differs_by_load under spare epoch room failed bad met i read ind = record {
    settled = settled_of xs ys spare spare epoch room room failed failed bad bad met met roots (λ m r st now. allows_same m r) (omega arith) (omega arith) (λ m st. let off = off_c m (not_fresh m st) in (ap stands_of off ∙ st, record { root = ap root_of off; low = ap low_of off; bits = ap bits_of off; writable = ap writable_of off; copies = ap copies_of off }));
    fresh = fresh;
    under = under;
    new = ap stands_of at_c;
    stands = λ m ne st. sym (ap stands_of (off_c m ne)) ∙ st;
    root = ap root_of at_c;
    low = ap low_of at_c ∙ alike l.node.low r.key parts.2;
    bits = ap bits_of at_c;
    clean = ap writable_of at_c;
    copies = ap copies_of at_c;
    set = rw (ap set_of at_c) l.fits.set;
    fits = rw (ap set_of at_c) l.fits;
    rules = slice_get xs (root_of (slice_get xs at));
    rules_leaf = refl;
    rules_allow = λ q e. e;
    belongs = λ t k. ap (λ q. belongs_to ys q t k) (ap root_of at_c) ∙ belongs_same xs ys roots.owner (root_of (slice_get xs at)) t k;
    there = λ m st. set_same m;
    link = λ m k st ne. rw (set_same m, first_same m k ne) refl;
    child = (let named = below_names _ r.key i r read ind refl in rw (set_same at, first_new, named) refl);
    was = was_untold;
    bare = λ k d e. let it : untold ≡ loaded d = sym (rw (first_bare k) (cond_same _ untold)) ∙ e in cc;
    spare = refl;
    room = refl;
  }

-- the reference that was read at a place of a node
module _ (xs : List Node) (at i : ℕ) (x : Node) (q : Ref) (read : slice_get xs at ≡ Some x) (ref : slice_get (let s = x.set in s.refs) i ≡ Some q) where
  pub ref_there : slice_get (let s = set_of (slice_get xs at) in s.refs) i ≡ Some q
  ref_there = ap (λ (o : Option Node). slice_get (let s = set_of o in s.refs) i) read ∙ ref

  pub ref_same : (r : Ref) → slice_get (let s = set_of (slice_get xs at) in s.refs) i ≡ Some r → q ≡ r
  ref_same r got = one_of q r (sym ref_there ∙ got)

-- nothing was loaded, though the counts rose
pub loads_nothing : (xs : List Node) (spare epoch room failed failed' bad bad' : ℕ) (met met' : Option (ℕ × Why)) (at k : ℕ) → Loads (forest_with xs spare epoch room failed bad met) (forest_with xs spare epoch room failed' bad' met') at k
loads_nothing xs spare epoch room failed failed' bad bad' met met' at k = record {
  keeps = λ m st ne. record { place = record { stands = st; root = refl; low = refl; bits = refl; belongs = λ t j. refl; writable = λ e. e }; alike = Alike-refl _; link = λ j. refl };
  link = λ j ne. refl;
  new = λ m st. inl st;
}

-- where no node was found, none is loaded
pub not_loaded : (xs : List Node) (at k d : ℕ) → position (is_child at k) xs ≡ None → link_of xs at k ≡ loaded d → ⊥
not_loaded xs at k d none e = let it : untold ≡ loaded d = sym (rw none (cond_same _ untold)) ∙ e in cc

-- which block is bad
pub bad_place : (p q : ℕ) (v w : Why) → ◌≡◌ {A = Trouble} (Bad p v) (Bad q w) → p ≡ q
bad_place p q v w e = cc

-- nobody tells what isn't loaded
pub not_told : (xs : List Node) (at k : ℕ) (l : List Ref) → link_of xs at k ≡ told l → ⊥
not_told xs at k l e = go _ (position (is_child at k) xs) e
  where
    go : (b : Bool) (o : Option ℕ) → cond b (link_to o) untold ≡ told l → ⊥
    go true None e = cc
    go true (Some c) e = cc
    go false o e = cc

-- where one was found, it is
pub is_loaded : (xs : List Node) (at i c : ℕ) (r : Ref) → position (is_child at r.key) xs ≡ Some c → slice_get (let s = set_of (slice_get xs at) in s.refs) i ≡ Some r → is_indirect r ≡ true → link_of xs at r.key ≡ loaded c
is_loaded xs at i c r found read ind = let named = below_names _ r.key i r read ind refl in rw (found, named) refl

pub loadable_in : (ys xs : List Node) (at c : ℕ) (r : Ref) → ys ≡ xs → IsLoadable ys at r c → IsLoadable xs at r c
loadable_in _ xs at c r e l = subst (λ (zs : List Node). IsLoadable zs at r c) e l

pub loadable_within : (xs : List Node) (at c : ℕ) (r : Ref) → IsLoadable xs at r c → c < length xs
loadable_within xs at c r l = slice_get_within xs c l.node l.read

pub loadable_away : (xs : List Node) (at c : ℕ) (r : Ref) → IsLoadable xs at r c → stands_of (slice_get xs c) ≡ false
loadable_away xs at c r l = ap stands_of l.read ∙ (away_parts l.node.loaded (is_up at l.node.up) (nat_eq l.node.low r.key) l.away).0

-- the node that was written is the one that was loaded
pub brought_is : (xs : List Node) (at c : ℕ) (r : Ref) (x y z : Node) (l : IsLoadable xs at r c) → slice_get xs at ≡ Some x → slice_get xs c ≡ Some y → z ≡ brought x.root x.copies r.keybits y → slice_set xs c (brought (root_of (slice_get xs at)) (copies_of (slice_get xs at)) r.keybits l.node) ≡ slice_set xs c z
brought_is xs at c r x y z l at_x at_y z_is =
    let same : l.node ≡ y = one_of l.node y (sym l.read ∙ at_y) in
    let root : root_of (slice_get xs at) ≡ x.root = ap root_of at_x in
    ap (λ (n : ℕ). slice_set xs c (brought n (copies_of (slice_get xs at)) r.keybits l.node)) root ∙ ap (λ (n : ℕ). slice_set xs c (brought x.root n r.keybits l.node)) (ap copies_of at_x) ∙ ap (λ (n : Node). slice_set xs c (brought x.root x.copies r.keybits n)) same ∙ ap (slice_set xs c) (sym z_is)

-- what loading a node does
pub record Brings (f g : Forest) (at c : ℕ) (q : Ref) : Type 0 where
  pub walked : Walks f g
  pub link : g.link at q.key ≡ loaded c
  pub loaded_there : Loads f g at q.key

brings_new : (xs : List Node) (spare epoch room failed bad : ℕ) (met : Option (ℕ × Why)) (at i c : ℕ) (q : Ref) → IsSound (forest_with xs spare epoch room failed bad met) → stands_of (slice_get xs at) ≡ true → (l : IsLoadable xs at q c) → position (is_child at q.key) xs ≡ None → (root_of (slice_get xs at) ≡ c → ⊥) → slice_get (let s = set_of (slice_get xs at) in s.refs) i ≡ Some q → is_indirect q ≡ true → Brings (forest_with xs spare epoch room failed bad met) (forest_with (slice_set xs c (brought (root_of (slice_get xs at)) (copies_of (slice_get xs at)) q.keybits l.node)) spare epoch room failed bad met) at c q
brings_new xs spare epoch room failed bad met at i c q sound stands l none under read ind =
    let d = differs_by_load xs at c q stands l none under spare epoch room failed bad met i read ind in
    record {
      walked = walks _ _ at c i q d sound stands read ind;
      link = d.child;
      loaded_there = loads _ _ at c i q d sound stands read ind;
    }

pub brings : (xs : List Node) (spare epoch room failed bad : ℕ) (met : Option (ℕ × Why)) (at i c : ℕ) (q : Ref) (x y z : Node) → IsSound (forest_with xs spare epoch room failed bad met) → stands_of (slice_get xs at) ≡ true → IsLoadable xs at q c → position (is_child at q.key) xs ≡ None → (root_of (slice_get xs at) ≡ c → ⊥) → slice_get (let s = set_of (slice_get xs at) in s.refs) i ≡ Some q → is_indirect q ≡ true → slice_get xs at ≡ Some x → slice_get xs c ≡ Some y → z ≡ brought x.root x.copies q.keybits y → Brings (forest_with xs spare epoch room failed bad met) (forest_with (slice_set xs c z) spare epoch room failed bad met) at c q
brings xs spare epoch room failed bad met at i c q x y z sound stands l none under read ind at_x at_y z_is = subst (λ (zs : List Node). Brings (forest_with xs spare epoch room failed bad met) (forest_with zs spare epoch room failed bad met) at c q) (brought_is xs at c q x y z l at_x at_y z_is) (brings_new xs spare epoch room failed bad met at i c q sound stands l none under read ind)
