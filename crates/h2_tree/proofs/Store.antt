-- A leaf that goes into the set of a node.
use Rattle.std.proofs.Common.{◌≡◌, ℕ, ◌+◌, ◌<◌, ◌≤◌, ◌^◌, true, false, arith, refl, sym, ◌∙◌, ap, List, length, Option, Some, subst, ◌⊎◌, inl, inr, slice_get}
use Rattle.h2_ref.specs.declared.reference.Ref.{Ref}
use Rattle.h2_set.specs.Ranges.{Rising, put, is_indirect}
use Rattle.h2_set.specs.RefSet.{RefSet, IsRefSet}
use Rattle.h2_set.specs.Forest.{Forest, refs, loaded, HasLeaves, LeavesOf, IsSound, Fits}
use Rattle.h2_set.specs.Calls.{InPlace, Stays, Keeps, Same, Alters, Stores, Storable, Loses}
use Rattle.h2_set.specs.StayLaws.{Alike-refl, Fixed-trans, InPlace-trans, leaves_stay}
use Rattle.h2_set.specs.ChangeLaws.{Keeps-Stays, Keeps-trans, Same-Keeps, below_keeps, leaves_move, same_or_not}
use Rattle.h2_set.specs.RenewLaws.{Keeps-Renews, Renews-trans}
use Rattle.h2_tree.specs.Changes.{Under, Takes, TakesIn, arrived, Inserts}
use Rattle.h2_tree.proofs.Going.{altered_place, changes_only, Prepares-refl, none_empty}
use Rattle.h2_tree.proofs.Touching.{In-refl}

-- the set s is that of node at with the leaf, and lacks no key
pub record WithLeaf (f : Forest) (at : ℕ) (leaf : Ref) (s : RefSet) : Type 0 where
  pub capacity : let t = f.set at in s.capacity ≡ t.capacity
  pub set : IsRefSet s
  pub some : 0 < length s.refs
  pub inside : Rising (f.low at) (f.low at + 2 ^ f.bits at) s.refs
  pub from : (i : ℕ) (r : Ref) → slice_get s.refs i ≡ Some r → (r ≡ leaf) ⊎ ((j : ℕ) × (slice_get (refs f at) j ≡ Some r))
  pub keys : (j : ℕ) (r : Ref) → slice_get (refs f at) j ≡ Some r → (i : ℕ) × (q : Ref) × (slice_get s.refs i ≡ Some q) × (q.key ≡ r.key) × (is_indirect q ≡ is_indirect r)
  pub leaves : (l : List Ref) → LeavesOf f at l → HasLeaves f at s.refs (put leaf l)

pub nothing_lost : (f : Forest) (at : ℕ) (leaf : Ref) (s : RefSet) → WithLeaf f at leaf s → (key : ℕ) → Loses f at s key → ⊥
nothing_lost f at leaf s w key loses = let it = w.keys loses.place loses.lost loses.was in loses.lacks it.0 it.1 it.2 it.3 it.4

-- a leaf that the tree may have fits its nodes, also when they are altered
pub leaf_fits : (f h : Forest) (at : ℕ) (leaf : Ref) → IsSound f → f.stands at ≡ true → Takes f at leaf → Alters f h at → Fits h at leaf
leaf_fits f h at leaf sound stands takes alters =
    let here = alters.tree at stands refl in
    let top = (sound.top at stands).0 in
    let top' = (altered_place f h at alters (f.root at) top).stands in
    record {
      held = λ ind. let clash : false ≡ true = sym takes.is_leaf ∙ ind in cc;
      aligned = takes.aligned;
      class = takes.class;
      leaf = λ _. takes.keybits ∙ sym (alters.fixed.leaf_bits (f.root at) top top') ∙ ap h.leaf_bits (sym here.place.root);
      allowed = λ _. ap (λ z. h.allows z leaf) here.place.root ∙ alters.fixed.allows (f.root at) leaf top top' ∙ takes.allowed;
      wide = λ ind. let clash : false ≡ true = sym takes.is_leaf ∙ ind in cc;
      some_bits = λ ind. let clash : false ≡ true = sym takes.is_leaf ∙ ind in cc;
      falls = λ ind. let clash : false ≡ true = sym takes.is_leaf ∙ ind in cc;
    }

-- where each node but one keeps or is renewed after an alteration, all stand where they stood
pub all_still : (f h g : Forest) (at : ℕ) → Alters f h at → InPlace h g at → ((m : ℕ) → h.stands m ≡ true → (m ≡ at → ⊥) → Keeps h g m) → (m : ℕ) → f.stands m ≡ true → InPlace f g m
all_still f h g at alters place others m st =
    let first : InPlace f h m = elim (same_or_not (f.root m) (f.root at)) as (λ _. InPlace f h m) [
      | inl same ↦ (alters.tree m st same).place
      | inr differs ↦ (alters.above m st differs).place
    ] in
    elim (same_or_not m at) as (λ _. InPlace f g m) [
      | inl same ↦ InPlace-trans f h g m first (subst (InPlace h g) (sym same) place)
      | inr differs ↦ InPlace-trans f h g m first (others m first.stands differs).place
    ]

module _ (f h : Forest) (at : ℕ) (leaf : Ref) (s : RefSet) (sound : IsSound f) (stands : f.stands at ≡ true) (takes : Takes f at leaf) (alters : Alters f h at) (w : WithLeaf h at leaf s) where
  here : Keeps f h at
  here = alters.tree at stands refl

  pub storable : Storable h at s
  storable = record {
    capacity = w.capacity;
    set = w.set;
    some = λ _. w.some;
    inside = w.inside;
    fits = λ i r read. elim (w.from i r read) as (λ _. Fits h at r) [
      | inl new ↦ subst (Fits h at) (sym new) (leaf_fits f h at leaf sound stands takes alters)
      | inr old ↦ (alters.sound.node at here.place.stands).fits old.0 r old.1
    ];
    stood = λ i r read ind. elim (w.from i r read) as (λ _. (j : ℕ) × (slice_get (refs h at) j ≡ Some r)) [
      | inl new ↦ let clash : false ≡ true = sym takes.is_leaf ∙ ap (λ (x : Ref). is_indirect x) (sym new) ∙ ind in cc
      | inr old ↦ old
    ];
    free = λ m st goes. absurd (nothing_lost h at leaf s w goes.key goes.loses);
  }

  pub inserts : (g : Forest) (old : Option Ref) → TakesIn f g at leaf 0 old → 63 ≤ f.room → Stores h g at s → Inserts f g at leaf old
  inserts g old change enough stores =
      let same : (m : ℕ) → h.stands m ≡ true → (m ≡ at → ⊥) → Same h g m = λ m st ne. stores.others m st ne (λ goes. nothing_lost h at leaf s w (h.low m) goes.loses) (λ goes. nothing_lost h at leaf s w goes.key goes.loses) in
      let others : (m : ℕ) → h.stands m ≡ true → (m ≡ at → ⊥) → Keeps h g m = λ m st ne. Same-Keeps h g m (same m st ne) in
      let P : ℕ → Type 0 = λ m. (f.stands m ≡ true) × (f.root m ≡ f.root at) in
      let closed : (m k c : ℕ) → P m → f.link m k ≡ loaded c → P c = λ m k c p link. let child = (sound.node m p.0).child k c link in (child.stands, child.root ∙ p.1) in
      let stay : (m : ℕ) → P m → Stays f h m = λ m p. Keeps-Stays f h m (alters.tree m p.0 p.1) in
      record {
        sound = stores.sound;
        fixed = Fixed-trans f h g (λ m st st'. (altered_place f h at alters m st).stands) alters.fixed stores.fixed;
        place = InPlace-trans f h g at here.place stores.place;
        leaves = λ l hl.
            let l2 : LeavesOf h at l = leaves_stay f h P closed stay (stands, refl) hl (refs h at) here.alike in
            let keep = λ (i c : ℕ) (r : Ref) (read : slice_get s.refs i ≡ Some r) (ind : is_indirect r ≡ true) (link : h.link at r.key ≡ loaded c).
            let child = (alters.sound.node at here.place.stands).child r.key c link in
            below_keeps h g at alters.sound (λ m st root ne. others m st ne) c child.stands child.root child.fewer in
            let l4 : HasLeaves g at s.refs (put leaf l) = leaves_move (w.leaves l l2) s.refs (Alike-refl s.refs) (λ i r read ind. stores.link i r read ind) keep in
            subst (λ (t : RefSet). HasLeaves g at t.refs (put leaf l)) (sym stores.set) l4;
        tree = λ m st root out.
            let k = alters.tree m st root in
            let ne : m ≡ at → ⊥ = λ e. out (subst (λ z. Under f z at) (sym e) (record { low = omega arith; high = omega arith })) in
            Keeps-trans f h g m k (others m k.place.stands ne);
        above = λ m st root.
            let k = alters.above m st root in
            let ne : m ≡ at → ⊥ = λ e. root (ap f.root e) in
            Renews-trans f h g m k (Keeps-Renews h g m (others m k.place.stands ne));
        still = all_still f h g at alters stores.place others;
        goes = record {
          then = f;
          prepares = Prepares-refl f sound;
          touched = In-refl f at leaf.key leaf.key;
          node = at;
          stands = stands;
          way = arrived;
          blocks = 0;
          change = change;
          only = changes_only f h g at (λ m. ⊥) alters stores.place (λ m st ne not_gone. same m st ne);
          room = omega (arith, alters.room, stores.room);
          spare = omega (arith, alters.spare, stores.spare);
          grown = λ one. refl;
        };
        filled = none_empty g stores.sound;
        room = (let slope = (sound.node at stands).slope in omega (arith, enough, slope, alters.room, stores.room));
        room_falls = omega (arith, alters.room, stores.room);
        spare = omega (arith, alters.spare, stores.spare);
      }

-- what stood before an alteration stands after it
pub alters_still : (f h : Forest) (at : ℕ) → Alters f h at → (m : ℕ) → f.stands m ≡ true → h.stands m ≡ true
alters_still f h at alters m st = elim (same_or_not (f.root m) (f.root at)) as (λ _. h.stands m ≡ true) [
  | inl same ↦ (alters.tree m st same).place.stands
  | inr differs ↦ (alters.above m st differs).place.stands
]

-- the room is enough for the nodes that are altered
pub enough_room : (f : Forest) (at : ℕ) → IsSound f → f.stands at ≡ true → 63 ≤ f.room → f.copies at ≤ f.room
enough_room f at sound stands room = let slope = (sound.node at stands).slope in omega (arith, slope, room)
