-- What goes with a reference that is missing, and what stays, once another set is stored.
use Rattle.std.proofs.Common.{◌≡◌, ℕ, ◌<◌, Bool, true, false, ◌&&◌, ◌||◌, arith, refl, cond, sym, ◌∙◌, ap, List, length, Option, Some, None, subst, ◌⊎◌, inl, inr, slice_get, suc, nat_eq, nat_lt}
use Rattle.std.specs.List.{position}
use Rattle.std.proofs.lemmas.Bool.{cases_lt, or_cases, or_left, or_right}
use Rattle.std.proofs.lemmas.Bool.Decides.{nat_tests}
use Rattle.std.proofs.lemmas.Option.{slice_get_past}
use Rattle.h2_ref.specs.declared.faults.Why.{Why}
use Rattle.h2_set.specs.RefSet.{RefSet}
use Rattle.h2_set.specs.Forest.{Forest, untold, IsSound}
use Rattle.h2_set.specs.Calls.{Loses, GoesBelow, GoesWith}
use Rattle.h2_set.specs.PathLaws.{reaches_through}
use Rattle.h2_inode.specs.declared.inode.Inode.{Inode}
use Rattle.h2_memory_sets.specs.declared.node.Node.{Node}
use Rattle.h2_memory_sets.specs.Kept.{AreKept}
use Rattle.h2_memory_sets.specs.Owners.{owner_of, is_owner, belongs_to, held_of}
use Rattle.h2_memory_sets.specs.View.{stands_of, set_of, root_of, low_of, bits_of, writable_of, copies_of, leaf_bits_of, is_child, names, link_to, forest_with, loses, goes, is_lost, goes_with, AllRooted}
use Rattle.h2_memory_sets.proofs.Drops.{given, goes_of, dropped_with, going, at_here, other_field, field, still_field, still_other, there_of, gone, stays, none_new, first, link_other, loses_is, is_losing, rooted_drop}
use Rattle.h2_memory_sets.proofs.Nesting.{few_bits}
use Rattle.h2_memory_sets.proofs.Nodes.{KeepsRoots, KeepsNode, loose_of}
use Rattle.h2_memory_sets.proofs.Owned.{chain_found, owner_is}
use Rattle.h2_memory_sets.proofs.Parting.{alike, item_at}
use Rattle.h2_memory_sets.proofs.Passing.{and_parts}
use Rattle.h2_memory_sets.proofs.Storing.{DiffersByStore, tested, now_stays, root_now}

same_eq : (a b : ℕ) → a ≡ b → nat_eq a b ≡ true
same_eq a b e = grind (arith, nat_tests)

module _ (xs : List Node) (at : ℕ) (x y : Node) (s : RefSet) (inode : Option Inode) (kept : AreKept xs) (read : slice_get xs at ≡ Some x) (same : y ≡ x) (spare epoch room failed bad : ℕ) (met : Option (ℕ × Why)) (sound : IsSound (forest_with xs spare epoch room failed bad met)) (stands : stands_of (slice_get xs at) ≡ true) where
  abbrev f : Forest
  f = forest_with xs spare epoch room failed bad met

  abbrev ys : List Node
  ys = dropped_with xs at x y s inode kept read same

  abbrev g : Forest
  g = forest_with (dropped_with xs at x y s inode kept read same) spare epoch room failed bad met

  abbrev goes_at : ℕ → Bool
  goes_at m = going xs at x y s inode kept read same m

  -- below a reference that is missing
  is_below : (m : ℕ) (z : Node) → slice_get xs m ≡ Some z → goes x.root x.bits (let t = x.set in t.refs) s.refs z ≡ true → GoesBelow f m at s
  is_below m z got e =
      let parts = and_parts (nat_eq z.root x.root) _ e in
      let more = and_parts (nat_lt z.bits x.bits) _ parts.1 in
      let low : low_of (slice_get xs m) ≡ z.low = ap low_of got in
      record {
        tree = ap root_of got ∙ alike _ _ parts.0 ∙ ap root_of (sym read);
        fewer = rw (got, read) (let lt = more.0 in grind (arith, nat_tests));
        loses = subst (Loses f at s) (sym low) (loses_is xs at x y s inode kept read same spare epoch room failed bad met z.low more.1);
      }

  -- of a tree that belongs to a leaf to which one leads
  is_with : (m : ℕ) (z : Node) → f.stands m ≡ true → slice_get xs m ≡ Some z → goes_with xs x.root (let t = x.set in t.refs) s.refs z.root ≡ true → GoesWith f m at s
  is_with m z st got e =
      let it = chain_found (is_lost x.root (let t = x.set in t.refs) s.refs) xs (suc z.root) z.root e in
      let o = it.owner in
      let parts = and_parts (nat_eq o.root x.root) _ it.passes in
      let on = it.on (is_owner x.root o.key) (rw (parts.0, same_eq o.key o.key refl) refl) in
      let top : f.root at ≡ x.root = ap root_of read in
      let bel : f.belongs m (f.root at) o.key ≡ true = ap (λ t. belongs_to xs (root_of (slice_get xs m)) t o.key) top ∙ ap (λ u. belongs_to xs (root_of u) x.root o.key) got ∙ on in
      let h = sound.owner m (f.root at) o.key st bel in
      let l = loses_is xs at x y s inode kept read same spare epoch room failed bad met o.key parts.1 in
      record {
        other = h.other;
        key = o.key;
        leaf = h.leaf;
        loses = l;
        reaches = reaches_through f o.key (f.root at) (Some h.leaf) sound h.root h.path at l.place l.lost stands refl l.was l.held;
        exact = h.key_is;
        belongs = bel;
      }

  goes_is : (m : ℕ) → f.stands m ≡ true → goes_at m ≡ true → GoesBelow f m at s ⊎ GoesWith f m at s
  goes_is m st e =
      let it = there_of xs at x y s inode kept read same m e in
      elim (or_cases (goes x.root x.bits (let t = x.set in t.refs) s.refs it.0) (goes_with xs x.root (let t = x.set in t.refs) s.refs (it.0).root) it.2) as (λ _. GoesBelow f m at s ⊎ GoesWith f m at s) [
        | inl below ↦ inl (is_below m it.0 it.1 below)
        | inr with' ↦ inr (is_with m it.0 st it.1 with')
      ]

  all_below : (m : ℕ) (z : Node) → slice_get xs m ≡ Some z → GoesBelow f m at s → goes x.root x.bits (let t = x.set in t.refs) s.refs z ≡ true
  all_below m z got below =
      let root : z.root ≡ x.root = sym (ap root_of got) ∙ below.tree ∙ ap root_of read in
      let less : z.bits < x.bits = (let less = below.fewer in rw (got, read) at less) in
      let a : nat_eq z.root x.root ≡ true = grind (arith, nat_tests) in
      let b : nat_lt z.bits x.bits ≡ true = grind (arith, nat_tests) in
      let c : loses (let t = x.set in t.refs) s.refs z.low ≡ true = is_losing xs at x y s inode kept read same spare epoch room failed bad met z.low (subst (Loses f at s) (ap low_of got) below.loses) in
      rw (a, b, c) refl

  all_with : (m : ℕ) (z : Node) → slice_get xs m ≡ Some z → GoesWith f m at s → goes_with xs x.root (let t = x.set in t.refs) s.refs z.root ≡ true
  all_with m z got w =
      let bel : belongs_to xs z.root (f.root at) w.key ≡ true = sym (ap (λ u. belongs_to xs (root_of u) (f.root at) w.key) got) ∙ w.belongs in
      let it = chain_found (is_owner (f.root at) w.key) xs (suc z.root) z.root bel in
      let o = it.owner in
      let is = owner_is (f.root at) w.key o it.passes in
      let root : nat_eq o.root x.root ≡ true = same_eq o.root x.root (is.0 ∙ ap root_of read) in
      let lost' : loses (let t = x.set in t.refs) s.refs o.key ≡ true = ap (loses (let t = x.set in t.refs) s.refs) is.1 ∙ is_losing xs at x y s inode kept read same spare epoch room failed bad met w.key w.loses in
      it.on (is_lost x.root (let t = x.set in t.refs) s.refs) (rw (root, lost') refl)

  goes_all : (m : ℕ) → f.stands m ≡ true → GoesBelow f m at s ⊎ GoesWith f m at s → goes_at m ≡ true
  goes_all m st why = elim (cases_lt m (length xs)) as (λ _. goes_at m ≡ true) [
    | inr ge ↦ let clash : true ≡ false = sym st ∙ ap stands_of (slice_get_past xs m ge) in absurd (cc)
    | inl lt ↦
        let it = item_at xs m lt in
        ap (goes_of xs x.root x.bits (let t = x.set in t.refs) s.refs) it.1 ∙ elim why as (λ _. (goes x.root x.bits (let t = x.set in t.refs) s.refs it.0 || goes_with xs x.root (let t = x.set in t.refs) s.refs (it.0).root) ≡ true) [
          | inl below ↦ or_left _ _ (all_below m it.0 it.1 below)
          | inr w ↦ or_right _ _ (all_with m it.0 it.1 w)
        ]
  ]

  by_root : (m t k : ℕ) → f.stands m ≡ true → f.belongs (f.root m) t k ≡ f.belongs m t k
  by_root m t k st = ap (λ q. belongs_to xs q t k) (sound.top m st).1

  module _ (free : (m : ℕ) → f.stands m ≡ true → GoesWith f m at s → f.held m ≡ false) where
    -- what is held doesn't go
    unheld : (m : ℕ) → goes_at m ≡ true → held_of (slice_get xs m) ≡ false
    unheld m e = elim (tested (held_of (slice_get xs m))) as (λ _. held_of (slice_get xs m) ≡ false) [
      | inr free' ↦ free'
      | inl h ↦
          let it = sound.held m h in
          elim (goes_is m it.0 e) as (λ _. held_of (slice_get xs m) ≡ false) [
            | inr w ↦ free m it.0 w
            | inl below ↦
                let less = below.fewer in
                let half = (sound.node m it.0).half it.1 in
                let few = few_bits f sound at stands in
                absurd (omega (arith, less, half, few))
          ]
    ]

    held_same : (m : ℕ) → held_of (slice_get ys m) ≡ held_of (slice_get xs m)
    held_same m = elim (tested (goes_at m)) as (λ _. held_of (slice_get ys m) ≡ held_of (slice_get xs m)) [
      | inr e ↦ still_field xs at x y s inode kept read same held_of refl m e
      | inl e ↦ off (slice_get ys m) (gone xs at x y s inode kept read same m e) ∙ sym (unheld m e)
    ]
      where
        off : (o : Option Node) → stands_of o ≡ false → held_of o ≡ false
        off None e = refl
        off (Some z) e = ap (λ b. b && z.held) e

    pub roots : KeepsRoots xs (dropped_with xs at x y s inode kept read same)
    roots = record {
      leaf_bits = field xs at x y s inode kept read same leaf_bits_of (λ z. refl) refl;
      owner = field xs at x y s inode kept read same owner_of (λ z. refl) refl;
      held = held_same;
    }

    node : (m : ℕ) → KeepsNode xs ys m
    node m = record {
      root = field xs at x y s inode kept read same root_of (λ z. refl) refl m;
      low = field xs at x y s inode kept read same low_of (λ z. refl) refl m;
      bits = field xs at x y s inode kept read same bits_of (λ z. refl) refl m;
      writable = field xs at x y s inode kept read same writable_of (λ z. refl) refl m;
      copies = field xs at x y s inode kept read same copies_of (λ z. refl) refl m;
    }

    set_here : set_of (slice_get ys at) ≡ s
    set_here = ap set_of (at_here xs at x y s inode kept read same)

    pub differs_by_store : DiffersByStore f g at s
    differs_by_store = record {
      loose = loose_of xs ys spare spare epoch room room failed failed bad bad met met roots (λ m st now. node m);
      goes = λ m. goes_at m;
      gone = gone xs at x y s inode kept read same;
      stays = stays xs at x y s inode kept read same;
      none_new = none_new xs at x y s inode kept read same;
      goes_is = goes_is;
      goes_all = goes_all;
      by_root = by_root;
      here = set_here;
      there = λ m ne. other_field xs at x y s inode kept read same set_of (λ z. refl) m ne;
      link = link_other xs at x y s inode kept read same;
      link_here = λ k named was stay.
          ap (λ (t : RefSet). cond (names t.refs k) (link_to (position (is_child at k) ys)) untold) set_here ∙ ap (λ b. cond b (link_to (position (is_child at k) ys)) untold) named ∙ ap link_to (first xs at x y s inode kept read same at k (λ c e. stay c (rw (e, was) refl))) ∙ sym (ap (λ b. cond b (link_to (position (is_child at k) xs)) untold) was);
      unnamed = λ k miss. ap (λ (t : RefSet). cond (names t.refs k) (link_to (position (is_child at k) ys)) untold) set_here ∙ ap (λ b. cond b (link_to (position (is_child at k) ys)) untold) miss;
      spare = refl;
      room = refl;
      failed = refl;
      bad = refl;
      met = refl;
    }

    -- the root of what stays stays
    pub root_stays : (m : ℕ) → g.stands m ≡ true → goes_at (f.root m) ≡ false
    unfolding differs_by_store
    root_stays m now =
        let d = differs_by_store in
        let st = d.none_new m now in
        now_stays f g at s d sound stands (f.root m) (root_now f g at s d sound stands m st (now_stays f g at s d sound stands m now))

    pub rooted_dropped : AllRooted xs → AllRooted (dropped_with xs at x y s inode kept read same)
    rooted_dropped rooted = rooted_drop xs at x y s inode kept read same rooted root_stays

    -- of what stays, another node is the same
    pub other_stays : {X : Type 0} (F : Option Node → X) → (m : ℕ) → (m ≡ at → ⊥) → g.stands m ≡ true → F (slice_get (dropped_with xs at x y s inode kept read same) m) ≡ F (slice_get xs m)
    unfolding differs_by_store
    other_stays F m ne now = still_other xs at x y s inode kept read same F m ne (now_stays f g at s differs_by_store sound stands m now)

    -- what reads the same of node at with its new set and inode reads the same of all that stays
    pub stays_field : {X : Type 0} (F : Option Node → X) → F (Some (given y s inode)) ≡ F (Some y) → (m : ℕ) → g.stands m ≡ true → F (slice_get (dropped_with xs at x y s inode kept read same) m) ≡ F (slice_get xs m)
    unfolding differs_by_store
    stays_field F same_set m now = still_field xs at x y s inode kept read same F same_set m (now_stays f g at s differs_by_store sound stands m now)
