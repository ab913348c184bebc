-- What a change of one node's set leaves of all others.
use Rattle.std.proofs.Common.{◌≡◌, ℕ, Bool, true, false, arith, refl, sym, ◌∙◌, ap, List, [], ◌∷◌, length, Some, subst, inl, inr, slice_get, suc}
use Rattle.h2_ref.specs.declared.reference.Ref.{Ref}
use Rattle.h2_set.specs.Ranges.{holds, is_indirect}
use Rattle.h2_set.specs.RefSet.{RefSet}
use Rattle.h2_set.specs.Forest.{Forest, refs, loaded, IsSoundNode, IsSound}
use Rattle.h2_set.specs.Calls.{InPlace, Same, Walks, ReadiesOnly, Alters, OnWay, inside, across, itself}
use Rattle.h2_set.specs.StayLaws.{Fixed-refl, Fixed-trans, InPlace-trans, Stays-refl, Stays-trans, Same-Stays}
use Rattle.h2_set.specs.ChangeLaws.{same_or_not, Keeps-trans, Same-Keeps}
use Rattle.h2_set.specs.RenewLaws.{Alike-length, Keeps-Renews, Renews-trans}
use Rattle.h2_tree.specs.Changes.{ChangesOnly, Prepares, Descends, onward, NoneEmpty}

-- lists of one length, of which one has all that the other has, each at its place
same_list : (rs qs : List Ref) → length qs ≡ length rs → ((i : ℕ) (r : Ref) → slice_get rs i ≡ Some r → slice_get qs i ≡ Some r) → qs ≡ rs
same_list [] [] n each = refl
same_list [] (q ∷ qs) n each = absurd (omega (arith, n))
same_list (r ∷ rs) [] n each = absurd (omega (arith, n))
same_list (r ∷ rs) (q ∷ qs) n each =
    let first : slice_get (q ∷ qs) 0 ≡ Some r = each 0 r refl in
    let head : q ≡ r = (cc) in
    let tail : qs ≡ rs = same_list rs qs (omega (arith, n)) (λ i x read. each (suc i) x read) in
    rw (head, tail) refl

same_set : (s t : RefSet) → s.refs ≡ t.refs → s.capacity ≡ t.capacity → s ≡ t
same_set s t refs_are capacity =
    let with_refs : RefSet = record { refs = t.refs; capacity = s.capacity } in
    let first : s ≡ with_refs = ap (λ z. let w : RefSet = record { refs = z; capacity = s.capacity } in w) refs_are in
    let second : with_refs ≡ t = ap (λ z. let w : RefSet = record { refs = t.refs; capacity = z } in w) capacity in
    first ∙ second

-- no reference of a node is on the way to it
pub not_own : (f : Forest) (at i : ℕ) (r : Ref) → IsSoundNode f at → slice_get (refs f at) i ≡ Some r → OnWay f at r at → ⊥
not_own f at i r node read (inside root ind in_r bits) = omega (arith, (node.fits i r read).falls ind, bits)
not_own f at i r node read (across key other in_r belongs) = other refl

-- the set of a node that is altered stays
pub own_set : (f h : Forest) (at : ℕ) → IsSound f → f.stands at ≡ true → Alters f h at → h.set at ≡ f.set at
own_set f h at sound stands alters =
    let node = sound.node at stands in
    let n = Alike-length (refs f at) (refs h at) (alters.tree at stands refl).alike in
    same_set (h.set at) (f.set at) (same_list (refs f at) (refs h at) n (λ i r read. alters.exact at i r stands read (not_own f at i r node read))) (alters.capacity at stands)

-- a node stands where it stood after an alteration
pub altered_place : (f h : Forest) (at : ℕ) → Alters f h at → (m : ℕ) → f.stands m ≡ true → InPlace f h m
altered_place f h at alters m st = elim (same_or_not (f.root m) (f.root at)) as (λ _. InPlace f h m) [
  | inl same ↦ (alters.tree m st same).place
  | inr differs ↦ (alters.above m st differs).place
]

-- an alteration, and then a change that leaves all others but what goes
pub changes_only : (f h g : Forest) (at : ℕ) (goes : ℕ → Type 0) → Alters f h at → InPlace h g at → ((m : ℕ) → h.stands m ≡ true → (m ≡ at → ⊥) → (goes m → ⊥) → Same h g m) → ChangesOnly f g at goes
changes_only f h g at goes alters place others = record {
  still = λ m st not_gone.
      let first = altered_place f h at alters m st in
      elim (same_or_not m at) as (λ _. InPlace f g m) [
        | inl same ↦ InPlace-trans f h g m first (subst (InPlace h g) (sym same) place)
        | inr differs ↦ InPlace-trans f h g m first (others m first.stands differs not_gone).place
      ];
  tree = λ m st root differs not_gone.
      let k = alters.tree m st root in
      Keeps-trans f h g m k (Same-Keeps h g m (others m k.place.stands differs not_gone));
  others = λ m st root not_gone.
      let k = alters.above m st root in
      Renews-trans f h g m k (Keeps-Renews h g m (Same-Keeps h g m (others m k.place.stands (λ e. root (ap f.root e)) not_gone)));
  exact = λ m i r st differs not_gone read off.
      let first = altered_place f h at alters m st in
      subst (λ (s : RefSet). slice_get s.refs i ≡ Some r) (sym (others m first.stands differs not_gone).set) (alters.exact m i r st read off);
  kept = λ m i c r st differs not_gone read link was_writable.
      let first = altered_place f h at alters m st in
      subst (λ (s : RefSet). slice_get s.refs i ≡ Some r) (sym (others m first.stands differs not_gone).set) (alters.kept m i c r st read link was_writable);
  kept_leaf = λ m i c r st differs not_gone read leaf is was_writable.
      let first = altered_place f h at alters m st in
      subst (λ (s : RefSet). slice_get s.refs i ≡ Some r) (sym (others m first.stands differs not_gone).set) (alters.kept_leaf m i c r st read leaf is was_writable);
  dated = λ m i r q st differs not_gone read read_now.
      let first = altered_place f h at alters m st in
      alters.dated m i r q st read (subst (λ (s : RefSet). slice_get s.refs i ≡ Some q) (others m first.stands differs not_gone).set read_now);
  writable = λ m st not_gone not_above.
      let first = altered_place f h at alters m st in
      (others m first.stands (λ e. not_above (itself e)) not_gone).writable ∙ alters.others m st not_above;
  made = λ m st not_gone is_above.
      let first = altered_place f h at alters m st in
      elim (same_or_not m at) as (λ _. g.writable m ≡ true) [
        | inl same ↦ subst (λ z. g.writable z ≡ true) (sym same) (place.writable alters.writable)
        | inr differs ↦ (others m first.stands differs not_gone).writable ∙ alters.made m st is_above
      ];
  top = λ not_gone st.
      let first = altered_place f h at alters (f.root at) st in
      elim (same_or_not (f.root at) at) as (λ _. g.writable (f.root at) ≡ true) [
        | inl same ↦ subst (λ z. g.writable z ≡ true) (sym same) (place.writable alters.writable)
        | inr differs ↦ (others (f.root at) first.stands differs not_gone).writable ∙ alters.top
      ];
}

pub Prepares-refl : (f : Forest) → IsSound f → Prepares f f
Prepares-refl f sound = record { sound = sound; fixed = Fixed-refl f; stays = λ m stands. Stays-refl f m stands; sets = λ m stands. refl; writable = λ m stands. refl; clean = λ m out stands. let clash : false ≡ true = sym out ∙ stands in cc; copies = λ m stands. refl; spare = omega arith; room = refl }

pub Prepares-trans : (f g h : Forest) → Prepares f g → Prepares g h → Prepares f h
Prepares-trans f g h a b = record {
  sound = b.sound;
  fixed = Fixed-trans f g h (λ m st st'. (a.stays m st).place.stands) a.fixed b.fixed;
  stays = λ m stands. Stays-trans f g h a.sound b.stays m (a.stays m stands);
  sets = λ m stands. b.sets m (a.stays m stands).place.stands ∙ a.sets m stands;
  writable = λ m stands. b.writable m (a.stays m stands).place.stands ∙ a.writable m stands;
  clean = λ m out stands. clean_after m (g.stands m) refl out stands;
  copies = λ m stands. b.copies m (a.stays m stands).place.stands ∙ a.copies m stands;
  spare = omega (arith, a.spare, b.spare);
  room = b.room ∙ a.room;
}
  where
    clean_after : (m : ℕ) (there : Bool) → g.stands m ≡ there → f.stands m ≡ false → h.stands m ≡ true → h.writable m ≡ false
    clean_after m true e out stands = b.writable m e ∙ a.clean m out e
    clean_after m false e out stands = b.clean m e stands

pub Walks-prepares : (f g : Forest) → Walks f g → Prepares f g
Walks-prepares f g w = record { sound = w.sound; fixed = w.fixed; stays = w.stays; sets = w.sets; writable = w.writable; clean = w.clean; copies = w.copies; spare = omega (arith, w.spare); room = w.room }

pub Readies-prepares : (f g : Forest) → ReadiesOnly f g → Prepares f g
Readies-prepares f g r = record {
  sound = r.sound;
  fixed = r.fixed;
  stays = λ m st. Same-Stays f g m (r.same m st);
  sets = λ m st. (r.same m st).set;
  writable = λ m st. (r.same m st).writable;
  clean = λ m out st. let clash : false ≡ true = sym out ∙ r.none_new m st in cc;
  copies = λ m st. (r.same m st).copies;
  spare = r.spare;
  room = r.room;
}

-- a way from a child goes on from the node above
pub way_down : (h then : Forest) (key at i c n : ℕ) (q : Ref) → Prepares h then → h.stands at ≡ true → slice_get (refs h at) i ≡ Some q → holds key q ≡ true → is_indirect q ≡ true → h.link at q.key ≡ loaded c → Descends then key c n → Descends then key at n
way_down h then key at i c n q p stands read in_q ind link way =
    onward {r = q} i (ap (λ (s : RefSet). slice_get s.refs i) (p.sets at stands) ∙ read) in_q ind ((p.stays at stands).near q.key c link) way

-- no block of a sound forest is empty
pub none_empty : (g : Forest) → IsSound g → NoneEmpty g
none_empty g sound = λ m st other. (sound.node m st).some other
