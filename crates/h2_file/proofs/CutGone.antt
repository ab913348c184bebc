-- Which nodes go in a cut, where the child below a reference was cut first, and then the node's own references.
use Rattle.std.proofs.Common.{◌≡◌, ℕ, ◌≤◌, true, false, arith, sym, ◌∙◌, ap, length, None, subst, inl, inr, take, min}
use Rattle.std.proofs.lemmas.Bool.{cases_Bool}
use Rattle.std.proofs.lemmas.Option.{slice_get_within}
use Rattle.std.proofs.lemmas.List.{length-take}
use Rattle.h2_set.specs.Ranges.{holds}
use Rattle.h2_set.specs.RefSet.{RefSet}
use Rattle.h2_set.specs.Forest.{Forest, refs, IsSound}
use Rattle.h2_set.specs.Calls.{Alike, InPlace}
use Rattle.h2_set.specs.LeafLaws.{holds_inside, place_above}
use Rattle.h2_set.specs.PathLaws.{in_holds}
use Rattle.h2_set.specs.ChangeLaws.{same_or_not}
use Rattle.h2_set.specs.SplitLaws.{below_high}
use Rattle.h2_set.specs.RenewLaws.{like_at, Alike-sym}
use Rattle.h2_file.specs.Cutting.{GoesBehind, GoesPast, KeepsFront}
use Rattle.h2_file.proofs.Fronts.{same_holds}
use Rattle.h2_file.proofs.Trees.{in_ref}
use Rattle.h2_file.proofs.CutNodes.{fewer_behind}

-- The second step alone

module _ (k g : Forest) (at count : ℕ) (keeps : KeepsFront k g at count None) where
  pub front_refs : refs g at ≡ take count (refs k at)
  front_refs = ap (λ (s : RefSet). s.refs) keeps.set

  pub front_length : length (refs g at) ≡ min count (length (refs k at))
  front_length = ap length front_refs ∙ length-take count (refs k at)

  dead : (m : ℕ) → k.stands m ≡ false → g.stands m ≡ false
  dead m out = elim (cases_Bool (g.stands m)) as (λ _. g.stands m ≡ false) [
    | inl st ↦ absurd (let clash : true ≡ false = sym (keeps.none_new m st) ∙ out in cc)
    | inr out ↦ out
  ]

  shorter : (n : ℕ) → k.stands n ≡ true → g.stands n ≡ true → length (refs g n) ≤ length (refs k n)
  shorter n st st' = elim (same_or_not n at) as (λ _. length (refs g n) ≤ length (refs k n)) [
    | inl e ↦ subst (λ z. length (refs g z) ≤ length (refs k z)) (sym e) (let l = front_length in omega (arith, l))
    | inr ne ↦ let l = keeps.lengths n st st' ne in omega (arith, l)
  ]

-- Both steps

module _ (t k g : Forest) (at count : ℕ) (sound : IsSound t) (stands : t.stands at ≡ true) (at_tk : InPlace t k at) (at_alike : Alike (refs t at) (refs k at)) (still : (m : ℕ) → t.stands m ≡ true → k.stands m ≡ true → InPlace t k m) (stand : (m : ℕ) → t.stands m ≡ true → (GoesPast t k m → ⊥) → k.stands m ≡ true) (gone : (m : ℕ) → t.stands m ≡ true → GoesPast t k m → k.stands m ≡ false) (keeps : KeepsFront k g at count None) where
  -- what goes with the second step stood below a reference of the node before the first one
  later : (n : ℕ) → t.stands n ≡ true → k.stands n ≡ true → GoesBehind k at count n → GoesBehind t at (length (refs g at)) n
  later n st st' goes =
      let place = still n st st' in
      let own = at_tk in
      let it = like_at (refs k at) (refs t at) (Alike-sym (refs t at) (refs k at) at_alike) goes.place goes.ref goes.read in
      record {
        place = goes.place;
        ref = it.ref;
        read = it.read;
        behind = (let l = front_length k g at count keeps in let b = goes.behind in omega (arith, l, b));
        tree = sym place.root ∙ goes.tree ∙ own.root;
        fewer = (let a = place.bits in let b = own.bits in let fewer = goes.fewer in omega (arith, a, b, fewer));
        held = subst (λ z. holds z it.ref ≡ true) place.low (same_holds (k.low n) goes.ref it.ref true it.like goes.held);
      }

  -- and what would have gone in the first one below it goes
  both : (m n : ℕ) → t.stands n ≡ true → k.stands n ≡ true → GoesBehind k at count n → (count' : ℕ) → GoesBehind t n count' m → GoesPast t g m
  both m n st st' goes count' below_n =
      let it = later n st st' goes in
      let range = in_ref t at n it.place it.ref sound stands st it.tree it.fewer it.read it.held in
      let node_n = sound.node n st in
      let held = holds_inside (t.low m) below_n.ref below_n.held in
      let low = place_above _ _ (refs t n) below_n.place below_n.ref node_n.inside below_n.read in
      let high = below_high _ _ (refs t n) below_n.place below_n.ref node_n.inside below_n.read in
      record {
        node = at;
        stood = stands;
        stays = keeps.place.stands;
        behind = record {
          place = it.place;
          ref = it.ref;
          read = it.read;
          behind = it.behind;
          tree = below_n.tree ∙ it.tree;
          fewer = (let a = below_n.fewer in let b = it.fewer in omega (arith, a, b));
          held = in_holds (t.low m) it.ref (omega (arith, range.0, low, held.0)) (omega (arith, range.1, high, held.1));
        };
      }

  stand_first : (m : ℕ) → t.stands m ≡ true → (GoesPast t g m → ⊥) → GoesPast t k m → ⊥
  stand_first m st none past = elim (cases_Bool (g.stands past.node)) as (λ _. ⊥) [
    | inl there ↦ none (record { node = past.node; stood = past.stood; stays = there; behind = fewer_behind (shorter k g at count keeps past.node past.stays there) past.behind })
    | inr out ↦
        let there = keeps.stand past.node past.stays (λ goes. none (both m past.node past.stood past.stays goes _ past.behind)) in
        let clash : true ≡ false = sym there ∙ out in
        cc
  ]

  pub stand_over : (m : ℕ) → t.stands m ≡ true → (GoesPast t g m → ⊥) → g.stands m ≡ true
  stand_over m st none =
      let there = stand m st (stand_first m st none) in
      keeps.stand m there (λ goes. none (record { node = at; stood = stands; stays = keeps.place.stands; behind = later m st there goes }))

  earlier : (m : ℕ) → t.stands m ≡ true → k.stands m ≡ true → GoesBehind t at (length (refs g at)) m → GoesBehind k at count m
  earlier m st st' goes =
      let place = still m st st' in
      let own = at_tk in
      let it = like_at (refs t at) (refs k at) at_alike goes.place goes.ref goes.read in
      record {
        place = goes.place;
        ref = it.ref;
        read = it.read;
        behind = (let l = front_length k g at count keeps in let b = goes.behind in let w = slice_get_within (refs k at) goes.place it.ref it.read in omega (arith, l, b, w));
        tree = place.root ∙ goes.tree ∙ sym own.root;
        fewer = (let a = place.bits in let b = own.bits in let fewer = goes.fewer in omega (arith, a, b, fewer));
        held = subst (λ z. holds z it.ref ≡ true) (sym place.low) (same_holds (t.low m) goes.ref it.ref true it.like goes.held);
      }

  pub gone_over : (m : ℕ) → t.stands m ≡ true → GoesPast t g m → g.stands m ≡ false
  gone_over m st past = elim (cases_Bool (k.stands m)) as (λ _. g.stands m ≡ false) [
    | inr out ↦ dead k g at count keeps m out
    | inl there ↦ elim (same_or_not past.node at) as (λ _. g.stands m ≡ false) [
      | inl e ↦ keeps.gone m there (earlier m st there (subst (λ z. GoesBehind t z (length (refs g z)) m) e past.behind))
      | inr ne ↦
          let was = keeps.none_new past.node past.stays in
          let n = keeps.lengths past.node was past.stays ne in
          dead k g at count keeps m (gone m st (record { node = past.node; stood = past.stood; stays = was; behind = fewer_behind (omega (arith, n)) past.behind }))
    ]
  ]
