-- Forests in memory in which a node was made writable with all above it, or the next epoch has begun.
use Rattle.std.proofs.Common.{◌≡◌, ℕ, ◌+◌, ◌<◌, ◌≤◌, ◌^◌, nat_eq, nat_lt, Bool, true, false, ◌&&◌, ◌||◌, arith, refl, sym, ◌∙◌, ap, List, [], ◌∷◌, ◌++◌, take, drop, length, Option, Some, subst, inl, inr, slice_get, suc, zero}
use Rattle.std.specs.Prelude.{map, not}
use Rattle.std.proofs.Math.Seq.{take-append_seam}
use Rattle.std.proofs.lemmas.Bool.{or_cases, or_left, or_right}
use Rattle.std.proofs.lemmas.Nat.{pow_pos}
use Rattle.h2_ref.specs.declared.faults.Why.{Why}
use Rattle.h2_set.specs.RefSet.{RefSet}
use Rattle.h2_set.specs.Forest.{Forest, refs, IsSound}
use Rattle.h2_set.specs.Calls.{Alike, Keeps, Alters, IsAbove, itself, by, inside, across}
use Rattle.h2_set.specs.ChangeLaws.{same_or_not}
use Rattle.h2_set.specs.LeafLaws.{holds_inside, place_above}
use Rattle.h2_set.specs.SplitLaws.{below_high}
use Rattle.h2_set.specs.StayLaws.{Alike-refl}
use Rattle.h2_set.specs.RenewLaws.{Keeps-Renews}
use Rattle.h2_memory_sets.specs.declared.node.Node.{Node}
use Rattle.h2_memory_sets.specs.View.{stands_of, set_of, root_of, low_of, bits_of, writable_of, copies_of, leaf_bits_of, link_of, forest_with, any_of, leads, is_above, is_over, place_of, with_dirty, with_copies, is_copied, marked_all, cleaned_all, recounted_all}
use Rattle.h2_memory_sets.specs.Roots.{BeginsEpoch}
use Rattle.h2_memory_sets.specs.Owners.{owner_of, is_owner, belongs_to, allows_of, held_of}
use Rattle.h2_memory_sets.specs.declared.node.Owner.{Owner}
use Rattle.h2_ref.specs.declared.reference.Ref.{Ref}
use Rattle.h2_set.specs.Ranges.{is_indirect, holds}
use Rattle.std.proofs.lemmas.Bool.Decides.{nat_tests}
use Rattle.h2_memory_sets.proofs.Counting.{count_none}
use Rattle.h2_memory_sets.proofs.Nesting.{in_holds, meet, one_range, leads_to}
use Rattle.h2_memory_sets.proofs.Nodes.{belongs_still}
use Rattle.h2_memory_sets.proofs.Owned.{AreLower, chain_found, owner_is, or_first, or_second}
use Rattle.h2_memory_sets.proofs.Parting.{one_of, alike}
use Rattle.h2_memory_sets.proofs.Passing.{any_true, any_some, and_parts}
use Rattle.h2_memory_sets.proofs.Recounting.{Above, field, link_same, node_at, above_is, is_above_of, is_writable, counted, root_above, still}
use Rattle.h2_memory_sets.proofs.Rooted.{map_field}
use Rattle.h2_memory_sets.proofs.Storing.{tested}
use Rattle.h2_memory_sets.proofs.Unloads.{map_item}

or_neither : (a b : Bool) → b ≡ false → (a || b) ≡ a
or_neither true b e = refl
or_neither false b e = e

same_number_eq : (a b : ℕ) → a ≡ b → nat_eq a b ≡ true
same_number_eq a b e = grind (arith, nat_tests)

shut : (l n b a o : Bool) → (l && (not (n || (a || o)) && (b && a))) ≡ false
shut false n b a o = refl
shut true true b a o = refl
shut true false b true o = refl
shut true false true false true = refl
shut true false true false false = refl
shut true false false false true = refl
shut true false false false false = refl

both_true : (a b : Bool) → a ≡ true → b ≡ true → (a && b) ≡ true
both_true true b e h = h
both_true false b e h = absurd (cc)

module _ (xs : List Node) (at : ℕ) (x : Node) (read : slice_get xs at ≡ Some x) (spare epoch room room' failed bad : ℕ) (met : Option (ℕ × Why)) (low : AreLower xs) (sound : IsSound (forest_with xs spare epoch room failed bad met)) (stands : stands_of (slice_get xs at) ≡ true) (room_is : room' + copies_of (slice_get xs at) ≡ room) where
  abbrev f : Forest
  f = forest_with xs spare epoch room failed bad met

  abbrev reach : Node → Bool
  reach = λ u. is_above (place_of x) u || is_over xs x.root u

  abbrev new : Node → Bool
  new = λ u. u.dirty || (is_above (place_of x) u || is_over xs x.root u)

  abbrev ys : List Node
  ys = recounted_all (marked_all (place_of x) xs)

  abbrev g : Forest
  g = forest_with ys spare epoch room' failed bad met

  same : {X : Type 0} (F : Option Node → X) → ((b : Bool) (u : Node) → F (Some (with_dirty b u)) ≡ F (Some u)) → ((n : ℕ) (u : Node) → F (Some (with_copies n u)) ≡ F (Some u)) → (m : ℕ) → F (slice_get ys m) ≡ F (slice_get xs m)
  same F a b m = field xs new spare epoch room failed bad met sound F a b m

  stands_same : (m : ℕ) → stands_of (slice_get ys m) ≡ stands_of (slice_get xs m)
  stands_same = same stands_of (λ b u. refl) (λ n u. refl)

  set_same : (m : ℕ) → set_of (slice_get ys m) ≡ set_of (slice_get xs m)
  set_same = same set_of (λ b u. refl) (λ n u. refl)

  links : (m k : ℕ) → link_of ys m k ≡ link_of xs m k
  links = link_same xs new spare epoch room failed bad met sound

  now_writable : (m : ℕ) (u : Node) → slice_get xs m ≡ Some u → writable_of (slice_get ys m) ≡ new u
  now_writable = is_writable xs new spare epoch room failed bad met sound

  -- what is above in the tree
  pub above_of : (m i : ℕ) (r : Ref) → f.stands m ≡ true → slice_get (refs f m) i ≡ Some r → f.root m ≡ f.root at → is_indirect r ≡ true → holds (f.low at) r ≡ true → f.bits at ≤ r.keybits → Above f m at
  above_of m i r st got root ind held bits =
      let node = sound.node m st in
      let it = holds_inside (f.low at) r held in
      let from = place_above _ _ (refs f m) i r node.inside got in
      let to = below_high _ _ (refs f m) i r node.inside got in
      let falls = (node.fits i r got).falls ind in
      record { root = root; bits = omega (arith, bits, falls); low = omega (arith, from, it.0); high = omega (arith, to, it.1) }

  self : Above f at at
  self = let pos = pow_pos (f.bits at) in record { root = refl; bits = omega arith; low = omega arith; high = omega (arith, pos) }

  root_at : f.root at ≡ x.root
  root_at = ap root_of read

  refs_of : (m : ℕ) (u : Node) → slice_get xs m ≡ Some u → refs f m ≡ (let s = u.set in s.refs)
  refs_of m u got = ap (λ (o : Option Node). let s = set_of o in s.refs) got

  -- a reference of a node of another tree that leads to what the node belongs to
  over_of : (m i key : ℕ) (r : Ref) (u : Node) → slice_get xs m ≡ Some u → slice_get (refs f m) i ≡ Some r → holds key r ≡ true → f.belongs at (f.root m) key ≡ true → is_over xs x.root u ≡ true
  over_of m i key r u got at_i held bel =
      let b : belongs_to xs x.root (f.root m) key ≡ true = sym (ap (λ q. belongs_to xs q (f.root m) key) root_at) ∙ bel in
      let it = chain_found (is_owner (f.root m) key) xs (suc x.root) x.root b in
      let same = owner_is (f.root m) key it.owner it.passes in
      let o : Owner = it.owner in
      let root : u.root ≡ o.root = sym (ap root_of got) ∙ sym same.0 in
      let held' : holds o.key r ≡ true = ap (λ k. holds k r) same.1 ∙ held in
      let some : any_of (holds o.key) (let s = u.set in s.refs) ≡ true = any_some (holds o.key) _ i r (ap (λ (l : List Ref). slice_get l i) (sym (refs_of m u got)) ∙ at_i) held' in
      it.on (leads u) (both_true (nat_eq u.root o.root) (any_of (holds o.key) (let s = u.set in s.refs)) (same_number_eq u.root o.root root) some)

  leads_over : (m : ℕ) (u : Node) → slice_get xs m ≡ Some u → is_over xs x.root u ≡ true → IsAbove f m at
  leads_over m u got e =
      let it = chain_found (leads u) xs (suc x.root) x.root e in
      let o : Owner = it.owner in
      let parts = and_parts (nat_eq u.root o.root) (any_of (holds o.key) (let s = u.set in s.refs)) it.passes in
      let root : u.root ≡ o.root = alike u.root o.root parts.0 in
      let some = any_true (holds o.key) (let s = u.set in s.refs) parts.1 in
      let less = it.lower low in
      let bel : f.belongs at (f.root m) o.key ≡ true = ap (λ q. belongs_to xs q (f.root m) o.key) root_at ∙ it.on (is_owner (f.root m) o.key) (both_true (nat_eq o.root (f.root m)) (nat_eq o.key o.key) (same_number_eq o.root (f.root m) (sym root ∙ sym (ap root_of got))) (same_number_eq o.key o.key refl)) in
      by some.place some.ref (ap (λ (l : List Ref). slice_get l some.place) (refs_of m u got) ∙ some.read)
      (across o.key (λ same. let a : u.root ≡ x.root = sym (ap root_of got) ∙ same ∙ root_at in omega (arith, a, root, less)) some.passes bel)

  leads_there : (m : ℕ) → f.stands m ≡ true → Above f m at → IsAbove f m at
  leads_there m st a = elim (same_or_not m at) as (λ _. IsAbove f m at) [
    | inl e ↦ itself e
    | inr ne ↦ elim (same_or_not (f.bits m) (f.bits at)) as (λ _. IsAbove f m at) [
      | inl e ↦
          let low = a.low in
          let high = a.high in
          let pos = pow_pos (f.bits at) in
          let it = meet f sound m at (f.low at) st stands (omega (arith, e)) low high (omega arith) (omega (arith, pos)) in
          let l = it.low in
          absurd (ne (one_range f sound m at st stands a.root (omega (arith, l, low)) e))
      | inr off ↦
          let bits = a.bits in
          let pos = pow_pos (f.bits at) in
          let it = leads_to f sound m at st stands (sym a.root) (omega (arith, off, bits)) a.low a.high in
          let from = it.from in
          let to = it.to in
          by it.place it.ref it.read (inside a.root it.indirect (in_holds (f.low at) it.ref from (omega (arith, to, pos))) it.wide)
    ]
  ]

  -- what leads there is marked
  marks : (m : ℕ) (u : Node) → slice_get xs m ≡ Some u → f.stands m ≡ true → IsAbove f m at → reach u ≡ true
  marks m u got st (itself e) = or_first (is_above (place_of x) u) (is_over xs x.root u) (is_above_of xs new spare epoch room failed bad met sound m at u x got read (subst (λ z. Above f z at) (sym e) self))
  marks m u got st (by i r at_i (inside root ind held bits)) = or_first (is_above (place_of x) u) (is_over xs x.root u) (is_above_of xs new spare epoch room failed bad met sound m at u x got read (above_of m i r st at_i root ind held bits))
  marks m u got st (by i r at_i (across key ne held bel)) = or_second (is_above (place_of x) u) (is_over xs x.root u) (over_of m i key r u got at_i held bel)

  marked : (m : ℕ) (u : Node) → slice_get xs m ≡ Some u → f.stands m ≡ true → reach u ≡ true → IsAbove f m at
  marked m u got st e = elim (or_cases (is_above (place_of x) u) (is_over xs x.root u) e) as (λ _. IsAbove f m at) [
    | inl is ↦ leads_there m st (above_is xs new spare epoch room failed bad met sound m at u x got read is)
    | inr is ↦ leads_over m u got is
  ]

  made : (m : ℕ) → f.stands m ≡ true → IsAbove f m at → g.writable m ≡ true
  made m st a =
      let u = node_at xs new spare epoch room failed bad met sound m st in
      now_writable m u.0 u.1 ∙ or_right (u.0).dirty (reach u.0) (marks m u.0 u.1 st a)

  others : (m : ℕ) → f.stands m ≡ true → (IsAbove f m at → ⊥) → g.writable m ≡ f.writable m
  others m st off =
      let u = node_at xs new spare epoch room failed bad met sound m st in
      let miss : reach u.0 ≡ false = elim (tested (reach u.0)) as (λ _. reach u.0 ≡ false) [
        | inl e ↦ absurd (off (marked m u.0 u.1 st e))
        | inr e ↦ e
      ] in
      now_writable m u.0 u.1 ∙ or_neither (u.0).dirty (reach u.0) miss ∙ ap writable_of (sym u.1)

  owners : (m : ℕ) → owner_of (slice_get ys m) ≡ owner_of (slice_get xs m)
  owners = same owner_of (λ b u. refl) (λ n u. refl)

  keeps : (m : ℕ) → f.stands m ≡ true → Keeps f g m
  keeps m st =
      let u = node_at xs new spare epoch room failed bad met sound m st in
      record {
        place = record {
          stands = stands_same m ∙ st;
          root = same root_of (λ b u. refl) (λ n u. refl) m;
          low = same low_of (λ b u. refl) (λ n u. refl) m;
          bits = same bits_of (λ b u. refl) (λ n u. refl) m;
          belongs = λ t k. belongs_still xs ys owners m t k (same root_of (λ b u. refl) (λ n u. refl) m);
          writable = λ e. now_writable m u.0 u.1 ∙ or_left (u.0).dirty (reach u.0) (sym (ap writable_of u.1) ∙ e);
        };
        alike = subst (λ (t : RefSet). Alike (refs f m) t.refs) (sym (set_same m)) (Alike-refl (refs f m));
        link = links m;
      }

  pub alters : Alters f g at
  alters = record {
    sound = still xs new spare epoch room failed bad met sound spare epoch room' sound.epoch;
    fixed = record { leaf_bits = λ m st now. same leaf_bits_of (λ b u. refl) (λ n u. refl) m; allows = λ m r st now. same (λ (o : Option Node). allows_of o r) (λ b u. refl) (λ n u. refl) m; held = same held_of (λ b u. refl) (λ n u. refl); name = λ r. refl; epoch = refl; failed = omega arith; bad = omega arith };
    writable = made at stands (itself refl);
    top = made (f.root at) (sound.top at stands).0 (leads_there (f.root at) (sound.top at stands).0 (root_above xs new spare epoch room failed bad met sound at stands));
    made = made;
    copies = counted xs new spare epoch room failed bad met sound at x read ∙ count_none (is_copied (place_of x)) (marked_all (place_of x) xs) (λ i t got. let it = map_item (λ u. with_dirty (new u) u) xs i t got in ap (is_copied (place_of x)) it.1 ∙ shut (it.0).loaded (it.0).dirty (nat_lt (it.0).bits 63) (is_above (place_of x) it.0) (is_over xs x.root it.0));
    room = room_is;
    exact = λ m i r st got off. ap (λ (t : RefSet). slice_get t.refs i) (set_same m) ∙ got;
    kept = λ m i c r st got link w. ap (λ (t : RefSet). slice_get t.refs i) (set_same m) ∙ got;
    kept_leaf = λ m i c r st got leaf is w. ap (λ (t : RefSet). slice_get t.refs i) (set_same m) ∙ got;
    dated = λ m i r q st got now. inl (one_of q r (sym now ∙ ap (λ (t : RefSet). slice_get t.refs i) (set_same m) ∙ got));
    still = λ all m st. set_same m;
    others = others;
    tree = λ m st root. keeps m st;
    above = λ m st root. Keeps-Renews f g m (keeps m st);
    capacity = λ m st. ap (λ (t : RefSet). t.capacity) (set_same m);
    none_new = λ m now. sym (stands_same m) ∙ now;
    spare = refl;
    failed = refl;
    bad = refl;
    met = refl;
  }

module _ (xs : List Node) (spare epoch room failed bad : ℕ) (met : Option (ℕ × Why)) (sound : IsSound (forest_with xs spare epoch room failed bad met)) (less : epoch < 2 ^ 62) where
  abbrev cs : List Node
  cs = recounted_all (cleaned_all xs)

  pub unchanged : {X : Type 0} (F : Option Node → X) → ((b : Bool) (u : Node) → F (Some (with_dirty b u)) ≡ F (Some u)) → ((n : ℕ) (u : Node) → F (Some (with_copies n u)) ≡ F (Some u)) → (m : ℕ) → F (slice_get cs m) ≡ F (slice_get xs m)
  unchanged F a b m = field xs (λ u. false) spare epoch room failed bad met sound F a b m

  none_writable : (zs : List Node) (h : Node → Node) → ((u : Node) → (h u).dirty ≡ false) → (m : ℕ) → writable_of (slice_get (map h zs) m) ≡ false
  none_writable zs h off m = go zs m
    where
      go : (l : List Node) (m : ℕ) → writable_of (slice_get (map h l) m) ≡ false
      go [] m = refl
      go (u ∷ l) zero = off u
      go (u ∷ l) (suc m) = go l m

  pub begins : BeginsEpoch (forest_with xs spare epoch room failed bad met) (forest_with (recounted_all (cleaned_all xs)) spare (epoch + 1) room failed bad met)
  begins = record {
    sound = still xs (λ u. false) spare epoch room failed bad met sound spare (epoch + 1) room (omega arith, omega (arith, less));
    epoch = refl;
    clean = λ m. clean m;
    stands = unchanged stands_of (λ b u. refl) (λ n u. refl);
    root = unchanged root_of (λ b u. refl) (λ n u. refl);
    low = unchanged low_of (λ b u. refl) (λ n u. refl);
    bits = unchanged bits_of (λ b u. refl) (λ n u. refl);
    set = unchanged set_of (λ b u. refl) (λ n u. refl);
    link = link_same xs (λ u. false) spare epoch room failed bad met sound;
    belongs = λ m t k. belongs_still xs cs (unchanged owner_of (λ b u. refl) (λ n u. refl)) m t k (unchanged root_of (λ b u. refl) (λ n u. refl) m);
    leaf_bits = unchanged leaf_bits_of (λ b u. refl) (λ n u. refl);
    allows = λ m r. unchanged (λ o. allows_of o r) (λ b u. refl) (λ n u. refl) m;
    held = unchanged held_of (λ b u. refl) (λ n u. refl);
    name = λ r. refl;
    spare = refl;
    room = refl;
    failed = refl;
    bad = refl;
    met = refl;
  }
    where
      clean : (m : ℕ) → writable_of (slice_get (recounted_all (cleaned_all xs)) m) ≡ false
      clean m = map_field writable_of _ (cleaned_all xs) (λ u. refl) m ∙ none_writable xs (with_dirty false) (λ u. refl) m

-- all nodes of a vector were written anew
pub written : (change : List Node → List Node) (xs zs ys : List Node) (n : ℕ) → n ≡ length ys → zs ≡ xs → ys ≡ change zs → take n (ys ++ drop (length ys) xs) ≡ change xs
written change xs zs ys n len same is = ap (λ k. take k (ys ++ drop (length ys) xs)) len ∙ take-append_seam ys _ ∙ is ∙ ap change same
