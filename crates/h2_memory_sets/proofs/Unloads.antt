-- Nodes that are unloaded.
use Rattle.std.proofs.Common.{◌≡◌, ℕ, ◌<◌, ◌≤◌, Bool, true, false, ◌&&◌, ◌||◌, arith, refl, cond, sym, ◌∙◌, ap, List, [], ◌∷◌, ◌++◌, take, drop, length, Option, Some, None, subst, ◌⊎◌, inl, inr, slice_get, suc, zero, nat_eq, nat_lt}
use Rattle.std.specs.Prelude.{map}
use Rattle.std.specs.List.{position}
use Rattle.std.proofs.Math.Seq.{take-append_seam}
use Rattle.std.proofs.lemmas.Bool.{cases_lt}
use Rattle.std.proofs.lemmas.Bool.Decides.{nat_tests}
use Rattle.std.proofs.lemmas.List.{length-map}
use Rattle.std.proofs.lemmas.List.Quantifiers.{position-Some}
use Rattle.std.proofs.lemmas.Option.{none-some, slice_get-get_or}
use Rattle.h2_ref.specs.declared.faults.Why.{Why}
use Rattle.h2_set.specs.Forest.{Forest, loaded, untold, IsSound, HasParent}
use Rattle.h2_set.specs.Calls.{InPlace}
use Rattle.h2_memory_sets.specs.declared.node.Node.{Node}
use Rattle.h2_memory_sets.specs.View.{stands_of, set_of, root_of, low_of, bits_of, writable_of, copies_of, leaf_bits_of, is_up, is_bare, is_top, is_child, link_to, link_of, forest_with, Block, block, stays_loaded, unloaded, unloaded_all, AllRooted}
use Rattle.h2_memory_sets.specs.Roots.{Unloads}
use Rattle.h2_memory_sets.specs.Inodes.{is_named, named_by}
use Rattle.h2_memory_sets.specs.Kept.{AreKept}
use Rattle.h2_memory_sets.specs.declared.node.Owner.{Owner}
use Rattle.h2_memory_sets.specs.Owners.{owner_of, allows_of, held_of}
use Rattle.h2_memory_sets.proofs.Bringing.{cond_same}
use Rattle.h2_memory_sets.proofs.Keeping.{flag_of, held_keeps, kept_map}
use Rattle.h2_memory_sets.proofs.Owned.{belongs_none}
use Rattle.h2_memory_sets.proofs.Nodes.{belongs_still, position_same, is_there}
use Rattle.h2_memory_sets.proofs.Parting.{alike, one_of, item_at, none_passes, none_false, get_map}
use Rattle.h2_memory_sets.proofs.Passing.{and_parts}
use Rattle.h2_memory_sets.proofs.Rooted.{map_field, stood}
use Rattle.h2_memory_sets.proofs.Rooting.{still_sound}

and_false : (b : Bool) → (b && false) ≡ false
and_false true = refl
and_false false = refl

-- a test of a node that is unloaded or not
child_before : (l : Bool) (u : Option ℕ) (m low k from : ℕ) → k < from → ((l && (is_bare u || nat_lt low from)) && (is_up m u && nat_eq low k)) ≡ (l && (is_up m u && nat_eq low k))
child_before false u m low k from lt = refl
child_before true None m low k from lt = refl
child_before true (Some u) m low k from lt = go (nat_eq low k) refl (nat_eq u m)
  where
    go : (e : Bool) → nat_eq low k ≡ e → (a : Bool) → (nat_lt low from && (a && e)) ≡ (a && e)
    go true ee a =
        let same : low ≡ k = alike low k ee in
        let less : nat_lt low from ≡ true = (let lt' : low < from = omega (arith, same, lt) in grind (arith, nat_tests)) in
        rw less refl
    go false ee a = rw (and_false a) (and_false _)

child_from : (l : Bool) (u : Option ℕ) (m low k from : ℕ) → from ≤ k → ((l && (is_bare u || nat_lt low from)) && (is_up m u && nat_eq low k)) ≡ false
child_from false u m low k from le = refl
child_from true None m low k from le = refl
child_from true (Some u) m low k from le = go (nat_eq low k) refl (nat_eq u m)
  where
    go : (e : Bool) → nat_eq low k ≡ e → (a : Bool) → (nat_lt low from && (a && e)) ≡ false
    go true ee a =
        let same : low ≡ k = alike low k ee in
        let less : nat_lt low from ≡ false = (let ge : from ≤ low = omega (arith, same, le) in grind (arith, nat_tests)) in
        rw less refl
    go false ee a = rw (and_false a) (and_false _)

gone : (l t s : Bool) → (l && t) ≡ true → (s && t) ≡ false → s ≡ false
gone l t false h e = refl
gone true true true h e = absurd (cc)
gone true false true h e = absurd (cc)
gone false t true h e = absurd (cc)

still_there : (l b t : Bool) → l ≡ true → (b ≡ true) ⊎ (t ≡ true) → (l && (b || t)) ≡ true
still_there true true t h e = refl
still_there true false true h e = refl
still_there true false false h (inl e) = absurd (cc)
still_there true false false h (inr e) = absurd (cc)
still_there false b t h e = absurd (cc)

bare_of : (l b : Bool) → (l && b) ≡ true → b ≡ true
bare_of true true h = refl
bare_of true false h = absurd (cc)
bare_of false b h = absurd (cc)

pub link_found : (b : Bool) (o : Option ℕ) (c : ℕ) → cond b (link_to o) untold ≡ loaded c → o ≡ Some c
link_found true None c e = absurd (cc)
link_found true (Some d) c e = let it : d ≡ c = (cc) in ap Some it
link_found false o c e = absurd (cc)

-- the place that a search found
pub record Found {X : Type 0} (p : X → Bool) (xs : List X) (c : ℕ) : Type 0 where
  pub item : X
  pub read : slice_get xs c ≡ Some item
  pub passes : p item ≡ true

pub found : {X : Type 0} (p : X → Bool) (xs : List X) (c : ℕ) → position p xs ≡ Some c → Found p xs c
found p [] c e = absurd (cc)
found p (y ∷ ys) c e =
    let it = position-Some p (y ∷ ys) c y e in
    record { item = _; read = slice_get-get_or (y ∷ ys) c y it.0; passes = it.1 }

pub map_item : {X : Type 0} (f : X → X) (zs : List X) (i : ℕ) (b : X) → slice_get (map f zs) i ≡ Some b → (y : X) × (b ≡ f y)
map_item f [] i b rb = absurd (none-some b rb)
map_item f (z ∷ zs) zero b rb = (z, sym (one_of _ b rb))
map_item f (z ∷ zs) (suc i) b rb = map_item f zs i b rb

-- all nodes of a vector were written anew
pub rewritten : (xs zs ys : List Node) (n from : ℕ) → n ≡ length ys → zs ≡ xs → ys ≡ unloaded_all from zs → take n (ys ++ drop (length ys) xs) ≡ unloaded_all from xs
rewritten xs zs ys n from len same is = ap (λ k. take k (ys ++ drop (length ys) xs)) len ∙ take-append_seam ys _ ∙ is ∙ ap (unloaded_all from) same

-- what the blocks hold stays
pub blocks_stay : (from : ℕ) (xs : List Node) → map block (unloaded_all from xs) ≡ map block xs
blocks_stay from [] = refl
blocks_stay from (x ∷ xs) = ap (λ (l : List Block). block x ∷ l) (blocks_stay from xs)

pub kept_unload : (from : ℕ) (xs : List Node) → AreKept xs → AreKept (unloaded_all from xs)
kept_unload from xs kept = kept_map (unloaded from) xs kept (λ x. record { owner = refl; root = refl; up = refl; loaded = λ e. (and_parts x.loaded (is_bare x.up || nat_lt x.low from) e).0; inode = refl; low = refl; bits = refl; leaf_bits = refl; set = refl })

module _ (xs : List Node) (from spare epoch room failed bad : ℕ) (met : Option (ℕ × Why)) (none : position is_named xs ≡ None) where
  abbrev ys : List Node
  ys = unloaded_all from xs

  abbrev f : Forest
  f = forest_with xs spare epoch room failed bad met

  abbrev g : Forest
  g = forest_with (unloaded_all from xs) spare epoch room failed bad met

  field : {X : Type 0} (F : Option Node → X) → ((x : Node) → F (Some (unloaded from x)) ≡ F (Some x)) → (m : ℕ) → F (slice_get ys m) ≡ F (slice_get xs m)
  field F same m = map_field F (unloaded from) xs same m

  owner_same : (m : ℕ) → owner_of (slice_get ys m) ≡ owner_of (slice_get xs m)
  owner_same = field owner_of (λ x. refl)

  belongs_same_at : (m t k : ℕ) → g.belongs m t k ≡ f.belongs m t k
  belongs_same_at m t k = belongs_still xs ys owner_same m t k (field root_of (λ x. refl) m)

  -- no leaf names a tree that stands
  unnamed : IsSound f → (m t k : ℕ) → f.stands m ≡ true → f.belongs m t k ≡ false
  unnamed sound m t k st = belongs_none xs (f.root m) t k (no_owner (slice_get xs (f.root m)) refl (sound.top m st).0)
    where
      no_owner : (o : Option Node) → slice_get xs (f.root m) ≡ o → stands_of o ≡ true → owner_of o ≡ None
      no_owner None read st' = refl
      no_owner (Some x) read st' = by_owner x.owner (none_false is_named xs none (f.root m) x read)
        where
          by_owner : (w : Option Owner) → named_by w x.loaded ≡ false → w ≡ None
          by_owner None e = refl
          by_owner (Some o) e = let clash : true ≡ false = sym st' ∙ e in absurd (cc)

  first_before : (m k : ℕ) → k < from → position (is_child m k) ys ≡ position (is_child m k) xs
  first_before m k lt = sym (position_same (is_child m k) (is_child m k) xs ys (sym (length-map _ _)) pointwise)
    where
      pointwise : (i : ℕ) (a b : Node) → slice_get xs i ≡ Some a → slice_get ys i ≡ Some b → is_child m k a ≡ is_child m k b
      pointwise i a b ra rb = sym (child_before a.loaded a.up m a.low k from lt) ∙ ap (is_child m k) (one_of (unloaded from a) b (sym (get_map (unloaded from) xs i a ra) ∙ rb))

  first_from : (m k : ℕ) → from ≤ k → position (is_child m k) ys ≡ None
  first_from m k le = none_passes (is_child m k) ys (λ i y got. let it = map_item (unloaded from) xs i y got in ap (is_child m k) it.1 ∙ child_from (it.0).loaded (it.0).up m (it.0).low k from le)

  link_before : (m k : ℕ) → k < from → link_of ys m k ≡ link_of xs m k
  link_before m k lt = rw (field set_of (λ x. refl) m, first_before m k lt) refl

  link_from : (m k : ℕ) → from ≤ k → link_of ys m k ≡ untold
  link_from m k le = rw (first_from m k le) (cond_same _ untold)

  stays : (m : ℕ) → AllRooted xs → stands_of (slice_get xs m) ≡ true → (low_of (slice_get xs m) < from) ⊎ (root_of (slice_get xs m) ≡ m) → stands_of (slice_get ys m) ≡ true
  stays m rooted st why =
      let it = item_at xs m (is_there xs m st) in
      let x = it.0 in
      let now = get_map (unloaded from) xs m x it.1 in
      let top : root_of (slice_get xs m) ≡ m → is_top (Some x) ≡ true = λ e. sym (ap is_top it.1) ∙ sym (ap (λ z. is_top (slice_get xs z)) e) ∙ rooted m st in
      let cause : (is_bare x.up ≡ true) ⊎ (nat_lt x.low from ≡ true) = elim why as (λ _. (is_bare x.up ≡ true) ⊎ (nat_lt x.low from ≡ true)) [
        | inl lt ↦ let less : x.low < from = subst (λ (o : Option Node). low_of o < from) it.1 lt in inr (grind (arith, nat_tests))
        | inr e ↦ inl (bare_of x.loaded (is_bare x.up) (top e))
      ] in
      ap stands_of now ∙ still_there x.loaded (is_bare x.up) (nat_lt x.low from) (sym (ap stands_of it.1) ∙ st) cause

  goes : (m k c : ℕ) → from ≤ k → link_of xs m k ≡ loaded c → stands_of (slice_get ys c) ≡ false
  goes m k c le e =
      let it = found (is_child m k) xs c (link_found _ _ c e) in
      let x = it.item in
      ap stands_of (get_map (unloaded from) xs c x it.read) ∙ gone x.loaded (is_up m x.up && nat_eq x.low k) (stays_loaded from x) it.passes (child_from x.loaded x.up m x.low k from le)

  place : (m : ℕ) → stands_of (slice_get ys m) ≡ true → InPlace f g m
  place m st = record { stands = st; root = field root_of (λ x. refl) m; low = field low_of (λ x. refl) m; bits = field bits_of (λ x. refl) m; belongs = λ t k. belongs_same_at m t k; writable = λ e. field writable_of (λ x. refl) m ∙ e }

  -- what is held is a root, which stays
  held_same : AllRooted xs → IsSound f → (m : ℕ) → held_of (slice_get ys m) ≡ held_of (slice_get xs m)
  held_same rooted sound m = held_keeps (slice_get xs m) (slice_get ys m) (field flag_of (λ x. refl) m) (stood from xs m) (λ e. let it = sound.held m e in stays m rooted it.0 (inr it.1))

  -- a node that stays isn't below one that goes
  kept_parent : AllRooted xs → IsSound f → (m : ℕ) → stands_of (slice_get xs m) ≡ true → stands_of (slice_get ys m) ≡ true → (f.root m ≡ m → ⊥) → HasParent g m
  kept_parent rooted sound m old st ne =
      let h = sound.parent m old ne in
      let kid = (sound.node h.parent h.stands).child (f.low m) m h.link in
      let above = kid.above in
      let low : g.low m ≡ f.low m = field low_of (λ x. refl) m in
      elim (cases_lt (f.low m) from) as (λ _. HasParent g m) [
        | inl lt ↦ record { parent = h.parent; stands = stays h.parent rooted h.stands (inl (omega (arith, above, lt))); link = ap (g.link h.parent) low ∙ link_before h.parent (f.low m) lt ∙ h.link }
        | inr ge ↦ let clash : true ≡ false = sym st ∙ goes h.parent (f.low m) m ge h.link in absurd (cc)
      ]

  pub unloads : AllRooted xs → IsSound f → Unloads (forest_with xs spare epoch room failed bad met) (forest_with (unloaded_all from xs) spare epoch room failed bad met) from
  unloads rooted sound = record {
    sound = record {
      node = λ m st.
          let old = stood from xs m st in
          let node = sound.node m old in
          still_sound f g m
          (λ n was now. let q = place n now in record { root = q.root; low = q.low; bits = q.bits; set = field set_of (λ x. refl) n; writable = field writable_of (λ x. refl) n; copies = field copies_of (λ x. refl) n })
          old st
          (λ k c e. elim (cases_lt k from) as (λ _. (link_of xs m k ≡ loaded c) × (stands_of (slice_get ys c) ≡ true)) [
            | inl lt ↦
                let was = sym (link_before m k lt) ∙ e in
                let kid = node.child k c was in
                (was, stays c rooted kid.stands (inl (let low = kid.low in omega (arith, low, lt))))
            | inr ge ↦ let clash : untold ≡ loaded c = sym (link_from m k ge) ∙ e in absurd (cc)
          ])
          (field leaf_bits_of (λ x. refl) (root_of (slice_get xs m)))
          (λ r. field (λ o. allows_of o r) (λ x. refl) (root_of (slice_get xs m))) (λ n t j was now. belongs_same_at n t j) node;
      held = λ m held.
          let it = sound.held m (sym (held_same rooted sound m) ∙ held) in
          (stays m rooted it.0 (inr it.1), field root_of (λ x. refl) m ∙ it.1);
      top = λ m st.
          let old = stood from xs m st in
          let t = sound.top m old in
          let root = field root_of (λ x. refl) m in
          let now = stays (f.root m) rooted t.0 (inr t.1) in
          (ap g.stands root ∙ now, ap g.root root ∙ field root_of (λ x. refl) (f.root m) ∙ t.1 ∙ sym root);
      parent = λ m st off. kept_parent rooted sound m (stood from xs m st) st (λ e. off (field root_of (λ x. refl) m ∙ e));
      owner = λ m t k st b. let clash : true ≡ false = sym b ∙ belongs_same_at m t k ∙ unnamed sound m t k (stood from xs m st) in absurd (cc);
      inode = λ m t k st b. let clash : true ≡ false = sym b ∙ belongs_same_at m t k ∙ unnamed sound m t k (stood from xs m st) in absurd (cc);
      chain = λ m t k u j now b b'. belongs_same_at m u j ∙ sound.chain m t k u j (stood from xs m now) (sym (belongs_same_at m t k) ∙ b) (sym (belongs_same_at t u j) ∙ b');
      epoch = sound.epoch;
    };
    fixed = record { leaf_bits = λ m st now. field leaf_bits_of (λ x. refl) m; allows = λ m r st now. field (λ o. allows_of o r) (λ x. refl) m; held = held_same rooted sound; name = λ r. refl; epoch = refl; failed = omega arith; bad = omega arith };
    stays = λ m st why. place m (stays m rooted st why);
    goes = λ m k c bare le link. goes m k c le link;
    same = λ m t k n st bel now. let clash : true ≡ false = sym bel ∙ unnamed sound m t k st in absurd (cc);
    none_new = stood from xs;
    set = field set_of (λ x. refl);
    writable = field writable_of (λ x. refl);
    copies = field copies_of (λ x. refl);
    link_before = link_before;
    link_from = λ m k bare le. link_from m k le;
    spare = refl;
    room = refl;
    failed = refl;
    bad = refl;
    met = refl;
  }
