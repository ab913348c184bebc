-- Forests in memory that differ by a node that took over a part of another.
use Rattle.std.proofs.Common.{◌≡◌, ℕ, ◌+◌, ◌<◌, ◌≤◌, ◌^◌, Bool, true, false, arith, refl, cond, sym, ◌∙◌, ap, List, length, Option, Some, None, subst, ◌⊎◌, inl, inr, slice_get, slice_set, nat_eq}
use Rattle.std.specs.List.{position}
use Rattle.std.proofs.lemmas.Bool.Decides.{nat_tests}
use Rattle.std.proofs.lemmas.Nat.{pow_pos}
use Rattle.std.proofs.lemmas.Option.{slice_get_within, slice_get_past}
use Rattle.h2_ref.specs.declared.faults.Why.{Why}
use Rattle.h2_ref.specs.declared.reference.Ref.{Ref}
use Rattle.h2_set.specs.declared.set.Split.{Split}
use Rattle.h2_set.specs.Ranges.{holds, limit, put}
use Rattle.h2_set.specs.RefSet.{RefSet, with_rest}
use Rattle.h2_set.specs.Forest.{loaded, untold}
use Rattle.h2_set.specs.LeafLaws.{outside_holds}
use Rattle.h2_set.specs.ChangeLaws.{same_or_not}
use Rattle.h2_memory_sets.specs.declared.node.Node.{Node}
use Rattle.h2_memory_sets.specs.View.{stands_of, set_of, root_of, low_of, bits_of, writable_of, copies_of, leaf_bits_of, is_child, link_to, moved, moved_all, with_set, new_node, parted, forest_with}
use Rattle.h2_memory_sets.specs.Owners.{owner_of, belongs_to, allows_of, held_of}
use Rattle.h2_memory_sets.proofs.Keeping.{refit_allows}
use Rattle.h2_memory_sets.proofs.Made.{DiffersByMake}
use Rattle.h2_memory_sets.proofs.Nodes.{KeepsRoots, settled_of, is_there}
use Rattle.h2_memory_sets.proofs.Owned.{belongs_same}
use Rattle.h2_memory_sets.proofs.Parting.{unlike, alike, up_other, up_at_out, up_c_out, up_at_in, up_c_in, tests, fails, first_push, first_none, none_passes, item_at, front_length, at_new, at_here, at_other, field, front_same, front_none}

-- no node is below where no place was found
never : (b : Bool) (o : Option ℕ) (d : ℕ) → o ≡ None → cond b (link_to o) untold ≡ loaded d → ⊥
never true o d none e = let it : untold ≡ loaded d = subst (λ z. link_to z ≡ loaded d) none e in cc
never false o d none e = cc

module _ (xs : List Node) (at : ℕ) (x : Node) (set : RefSet) (s : Split) (ref : Ref) (read : slice_get xs at ≡ Some x) (key_is : ref.key ≡ s.key) (bits_is : ref.keybits ≡ s.keybits) where
  abbrev kept : RefSet
  kept = record { refs = put ref (with_rest s.rest set.refs); capacity = set.capacity }

  abbrev c : ℕ
  c = length xs

  abbrev ys : List Node
  ys = parted xs at x kept s.moved ref

  abbrev front : List Node
  front = moved_all at c ref (slice_set xs at (with_set x kept))

  other : at ≡ length xs → ⊥
  other e = let lt = slice_get_within xs at x read in omega (arith, lt, e)

  fresh : stands_of (slice_get xs (length xs)) ≡ false
  fresh = ap stands_of (slice_get_past xs (length xs) (omega arith))

  not_fresh : (m : ℕ) → stands_of (slice_get xs m) ≡ true → m ≡ length xs → ⊥
  not_fresh m st e = let clash : true ≡ false = sym st ∙ ap (λ z. stands_of (slice_get xs z)) e ∙ fresh in cc

  stays : {X : Type 0} (F : Option Node → X) → ((y : Node) → F (Some (moved at (length xs) ref y)) ≡ F (Some y)) → F (Some (with_set x kept)) ≡ F (Some x) → (m : ℕ) → (m ≡ length xs → ⊥) → F (slice_get ys m) ≡ F (slice_get xs m)
  stays F same same_set m ne = field xs at x kept s.moved ref read F same same_set m ne

  -- a key in the range, or outside
  in_holds : (k low : ℕ) → s.key ≤ k → k < s.key + 2 ^ s.keybits → nat_eq low k ≡ true → holds low ref ≡ true
  in_holds k low lo hi e =
      let same : low ≡ k = alike low k e in
      let size : 2 ^ ref.keybits ≡ 2 ^ s.keybits = ap (λ z. 2 ^ z) bits_is in
      let from : ref.key ≤ low = omega (arith, same, key_is, lo) in
      let to : low < limit ref = omega (arith, same, key_is, hi, size) in
      grind (arith, nat_tests)

  out_holds : (k low : ℕ) → (k < s.key) ⊎ (s.key + 2 ^ s.keybits ≤ k) → nat_eq low k ≡ true → holds low ref ≡ false
  out_holds k low (inl lt) e = let same : low ≡ k = alike low k e in outside_holds low ref (inl (omega (arith, same, key_is, lt)))
  out_holds k low (inr le) e =
      let same : low ≡ k = alike low k e in
      let size : 2 ^ ref.keybits ≡ 2 ^ s.keybits = ap (λ z. 2 ^ z) bits_is in
      outside_holds low ref (inr (omega (arith, same, key_is, le, size)))

  not_start : (k : ℕ) → (k < s.key) ⊎ (s.key + 2 ^ s.keybits ≤ k) → k ≡ s.key → ⊥
  not_start k (inl lt) e = omega (arith, lt, e)
  not_start k (inr le) e = let pos = pow_pos s.keybits in omega (arith, le, e, pos)

  -- the new node is below node at alone, at its own key
  new_fails_at : (k : ℕ) → (k ≡ s.key → ⊥) → is_child at k (new_node at x s.moved ref) ≡ false
  new_fails_at k ne = fails true (nat_eq at at) (nat_eq ref.key k) (λ e. absurd (ne (sym (alike ref.key k e) ∙ key_is)))

  new_fails : (m k : ℕ) → (m ≡ at → ⊥) → is_child m k (new_node at x s.moved ref) ≡ false
  new_fails m k ne = fails true (nat_eq at m) (nat_eq ref.key k) (λ _. unlike at m (λ e. ne (sym e)))

  new_passes : is_child at s.key (new_node at x s.moved ref) ≡ true
  new_passes =
      let a : nat_eq at at ≡ true = grind (arith, nat_tests) in
      let b : nat_eq ref.key s.key ≡ true = grind (arith, nat_tests) in
      rw (a, b) refl

  first_other : (m k : ℕ) → (m ≡ at → ⊥) → (m ≡ length xs → ⊥) → position (is_child m k) ys ≡ position (is_child m k) xs
  first_other m k off off_c = first_push (is_child m k) front (new_node at x s.moved ref) (new_fails m k off) ∙ front_same xs at x kept s.moved ref read (is_child m k) (is_child m k) (λ y. tests y.loaded _ _ (nat_eq y.low k) (λ e. up_other at (length xs) ref y.low other m off off_c y.up)) refl

  first_here : (k : ℕ) → (k < s.key) ⊎ (s.key + 2 ^ s.keybits ≤ k) → position (is_child at k) ys ≡ position (is_child at k) xs
  first_here k out = first_push (is_child at k) front (new_node at x s.moved ref) (new_fails_at k (not_start k out)) ∙ front_same xs at x kept s.moved ref read (is_child at k) (is_child at k) (λ y. tests y.loaded _ _ (nat_eq y.low k) (λ e. up_at_out at (length xs) ref y.low other (out_holds k y.low out e) y.up)) refl

  none_here : (k : ℕ) → s.key ≤ k → k < s.key + 2 ^ s.keybits → (i : ℕ) (y : Node) → slice_get front i ≡ Some y → is_child at k y ≡ false
  none_here k lo hi = front_none xs at x kept s.moved ref read (is_child at k) (λ y. fails y.loaded _ (nat_eq y.low k) (λ e. up_at_in at (length xs) ref y.low other (in_holds k y.low lo hi e) y.up))

  first_start : position (is_child at s.key) ys ≡ Some (length xs)
  first_start =
      let pos = pow_pos s.keybits in
      first_none (is_child at s.key) front (new_node at x s.moved ref) (none_here s.key (omega arith) (omega (arith, pos))) new_passes ∙ ap Some (front_length xs at x kept s.moved ref read)

  first_inside : (k : ℕ) → (k ≡ s.key → ⊥) → s.key ≤ k → k < s.key + 2 ^ s.keybits → position (is_child at k) ys ≡ None
  first_inside k ne lo hi = first_push (is_child at k) front (new_node at x s.moved ref) (new_fails_at k ne) ∙ none_passes (is_child at k) front (none_here k lo hi)

  first_new : (k : ℕ) → s.key ≤ k → k < s.key + 2 ^ s.keybits → position (is_child (length xs) k) ys ≡ position (is_child at k) xs
  first_new k lo hi = first_push (is_child (length xs) k) front (new_node at x s.moved ref) (new_fails (length xs) k (λ e. other (sym e))) ∙ front_same xs at x kept s.moved ref read (is_child at k) (is_child (length xs) k) (λ y. tests y.loaded _ _ (nat_eq y.low k) (λ e. up_c_in at (length xs) ref y.low other (in_holds k y.low lo hi e) y.up)) refl

  first_new_out : (k : ℕ) → (k < s.key) ⊎ (s.key + 2 ^ s.keybits ≤ k) → position (is_child (length xs) k) ys ≡ None
  first_new_out k out = first_push (is_child (length xs) k) front (new_node at x s.moved ref) (new_fails (length xs) k (λ e. other (sym e))) ∙ none_passes (is_child (length xs) k) front (front_none xs at x kept s.moved ref read (is_child (length xs) k) (λ y. fails y.loaded _ (nat_eq y.low k) (λ e. up_c_out at (length xs) ref y.low other (out_holds k y.low out e) y.up)))

  there : (m : ℕ) → stands_of (slice_get xs m) ≡ true → (m ≡ at → ⊥) → set_of (slice_get ys m) ≡ set_of (slice_get xs m)
  there m st ne = let y = item_at xs m (is_there xs m st) in ap set_of (at_other xs at x kept s.moved ref read m y.0 ne y.1) ∙ ap set_of (sym y.1)

  leaf : (m : ℕ) → leaf_bits_of (slice_get ys m) ≡ leaf_bits_of (slice_get xs m)
  leaf m = elim (same_or_not m (length xs)) as (λ _. leaf_bits_of (slice_get ys m) ≡ leaf_bits_of (slice_get xs m)) [
    | inr ne ↦ stays leaf_bits_of (λ y. refl) refl m ne
    | inl e ↦ subst (λ z. leaf_bits_of (slice_get ys z) ≡ leaf_bits_of (slice_get xs z)) (sym e) (ap leaf_bits_of (at_new xs at x kept s.moved ref read) ∙ ap leaf_bits_of (sym (slice_get_past xs (length xs) (omega arith))))
  ]

  owner : (m : ℕ) → owner_of (slice_get ys m) ≡ owner_of (slice_get xs m)
  owner m = elim (same_or_not m (length xs)) as (λ _. owner_of (slice_get ys m) ≡ owner_of (slice_get xs m)) [
    | inr ne ↦ stays owner_of (λ y. refl) refl m ne
    | inl e ↦ subst (λ z. owner_of (slice_get ys z) ≡ owner_of (slice_get xs z)) (sym e) (ap owner_of (at_new xs at x kept s.moved ref read) ∙ ap owner_of (sym (slice_get_past xs (length xs) (omega arith))))
  ]

  held : (m : ℕ) → held_of (slice_get ys m) ≡ held_of (slice_get xs m)
  held m = elim (same_or_not m (length xs)) as (λ _. held_of (slice_get ys m) ≡ held_of (slice_get xs m)) [
    | inr ne ↦ stays held_of (λ y. refl) refl m ne
    | inl e ↦ subst (λ z. held_of (slice_get ys z) ≡ held_of (slice_get xs z)) (sym e) (ap held_of (at_new xs at x kept s.moved ref read) ∙ ap held_of (sym (slice_get_past xs (length xs) (omega arith))))
  ]

  roots : KeepsRoots xs ys
  roots = record { leaf_bits = leaf; owner = owner; held = held }

  pub differs_by_make : (root_of (slice_get xs at) ≡ length xs → ⊥) → (spare spare' epoch room room' failed bad : ℕ) (met : Option (ℕ × Why)) → spare' + 1 ≡ spare → room' + 1 ≡ room → DiffersByMake (forest_with xs spare epoch room failed bad met) (forest_with (parted xs at x (record { refs = put ref (with_rest s.rest set.refs); capacity = set.capacity }) s.moved ref) spare' epoch room' failed bad met) at (length xs) set s ref
  differs_by_make under spare spare' epoch room room' failed bad met spare_is room_is = record {
    settled = settled_of xs ys spare spare' epoch room room' failed failed bad bad met met roots (λ m r st now. stays (λ o. allows_of o r) (λ y. refl) (refit_allows x.inode kept x.leaves r) m (not_fresh m st)) (omega arith) (omega arith) (λ m st. let ne = not_fresh m st in (stays stands_of (λ y. refl) refl m ne ∙ st, record { root = stays root_of (λ y. refl) refl m ne; low = stays low_of (λ y. refl) refl m ne; bits = stays bits_of (λ y. refl) refl m ne; writable = stays writable_of (λ y. refl) refl m ne; copies = stays copies_of (λ y. refl) refl m ne }));
    fresh = fresh;
    under = under;
    new = ap stands_of (at_new xs at x kept s.moved ref read);
    stands = λ m ne st. sym (stays stands_of (λ y. refl) refl m ne) ∙ st;
    root = ap root_of (at_new xs at x kept s.moved ref read) ∙ ap root_of (sym read);
    low = ap low_of (at_new xs at x kept s.moved ref read) ∙ key_is;
    bits = ap bits_of (at_new xs at x kept s.moved ref read) ∙ bits_is;
    new_writable = ap writable_of (at_new xs at x kept s.moved ref read);
    new_copies = ap copies_of (at_new xs at x kept s.moved ref read) ∙ ap copies_of (sym read);
    moved = ap set_of (at_new xs at x kept s.moved ref read);
    belongs = λ t k. ap (λ q. belongs_to ys q t k) (ap root_of (at_new xs at x kept s.moved ref read)) ∙ belongs_same xs ys owner x.root t k ∙ ap (λ q. belongs_to xs q t k) (ap root_of (sym read));
    now = ap set_of (at_here xs at x kept s.moved ref read);
    there = there;
    link = λ m k st ne. rw (there m st ne, first_other m k ne (not_fresh m st)) refl;
    before = λ k. link_to (position (is_child at k) xs);
    before_is = λ k. refl;
    after_here = λ k out. rw (first_here k out) refl;
    after_start = rw first_start refl;
    after_new = λ k lo hi. rw (first_new k lo hi) refl;
    only = λ k d ne lo hi l. never _ _ d (first_inside k ne lo hi) l;
    only_below = λ k d out l. never _ _ d (first_new_out k out) l;
    spare = spare_is;
    room = room_is;
    failed = refl;
    bad = refl;
    met = refl;
  }
