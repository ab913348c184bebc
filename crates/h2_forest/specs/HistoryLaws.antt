-- Laws of what is told item by item.
use Rattle.std.specs.Prelude.{◌≡◌, ◌↔◌, ℕ, zero, suc, ◌+◌, ◌*◌, ◌<◌, ◌≤◌, List, [], ◌∷◌, ◌++◌, length, take, drop, slice_get, Some, refl}
use Rattle.std.proofs.Common.{ap, sym, ◌∙◌, arith, subst, drop-cons, get_or, add-one}
use Rattle.std.proofs.lemmas.List.{take_more}
use Rattle.h2_command.specs.declared.history.Item.{Item}
use Rattle.h2_forest.specs.History.{Each, after}
use Rattle.h2_forest.specs.declared.legality.Pass.{Pass}
use Rattle.h2_forest.specs.declared.legality.Pass.TheVariants.{Idle, Scanned}

-- the sums of a pass have room for 32 bits a segment
abbrev pub SumsFit : Pass → Type 0
SumsFit Idle = Unit {0}
SumsFit (Scanned applied staged freed) = (staged ≤ applied * 4294967295) × (freed ≤ applied * 4294967295)

some_same : (y x : Item) → Some y ≡ Some x → y ≡ x
some_same y x g = cc

-- what is left from a place on
left_is : (h : List Item) (i : ℕ) (x : Item) → i < length h → x ≡ get_or h i x → drop i h ≡ x ∷ drop (i + 1) h
left_is h i x lt is = rw add-one (drop-cons h i x lt ∙ ap (λ z. z ∷ drop (suc i) h) (sym is))

-- one more item is taken
one_taken : (h : List Item) (i : ℕ) (x : Item) → i < length h → x ≡ get_or h i x → take (i + 1) h ≡ take i h ++ x ∷ []
one_taken h i x lt is = take_more h i x lt ∙ ap (λ y. take i h ++ y ∷ []) (sym is)

none_left : (h : List Item) (i : ℕ) → length h ≤ i → drop i h ≡ []
none_left [] zero ge = refl
none_left [] (suc i) ge = refl
none_left (y ∷ h) zero ge = absurd (omega arith)
none_left (y ∷ h) (suc i) ge = none_left h i (omega arith)

module _ {S : Type 0} (allowed : S → Item → Type 0) (next : S → Item → S) where
  -- the state after one more item
  pub after_push : (s : S) (h : List Item) (x : Item) → after next s (h ++ x ∷ []) ≡ next (after next s h) x
  after_push s [] x = refl
  after_push s (y ∷ h) x = after_push (next s y) h x

  -- each of one item more
  pub each_push : (s : S) (h : List Item) (x : Item) → Each allowed next s h → allowed (after next s h) x → Each allowed next s (h ++ x ∷ [])
  each_push s [] x e a = (a, tt)
  each_push s (y ∷ h) x e a = (e.0, each_push (next s y) h x e.1 a)

  -- each of the items but the last one, and the last one
  pub each_pushed : (s : S) (h : List Item) (x : Item) → Each allowed next s (h ++ x ∷ []) → Each allowed next s h × allowed (after next s h) x
  each_pushed s [] x e = (tt, e.0)
  each_pushed s (y ∷ h) x e = let r = each_pushed (next s y) h x e.1 in ((e.0, r.0), r.1)

  -- the item at a place
  pub each_at : (s : S) (h : List Item) (i : ℕ) (x : Item) → Each allowed next s h → slice_get h i ≡ Some x → allowed (after next s (take i h)) x
  each_at s [] i x e g = absurd (cc)
  each_at s (y ∷ h) zero x e g = subst (allowed s) (some_same y x g) e.0
  each_at s (y ∷ h) (suc i) x e g = each_at (next s y) h i x e.1 g

  -- the first of what is left is allowed, and the rest is left
  pub each_next : (s : S) (h : List Item) (i : ℕ) (x : Item) (P : Type 0) → i < length h → x ≡ get_or h i x → (Each allowed next s (drop i h) ↔ P) → allowed s x → Each allowed next (next s x) (drop (i + 1) h) ↔ P
  each_next s h i x P lt is e a = (λ r. e.0 (subst (Each allowed next s) (sym (left_is h i x lt is)) (a, r)), λ p. (subst (Each allowed next s) (left_is h i x lt is) (e.1 p)).1)

  -- the first of what is left isn't allowed
  pub each_fails : (s : S) (h : List Item) (i : ℕ) (x : Item) (P : Type 0) → i < length h → x ≡ get_or h i x → (Each allowed next s (drop i h) ↔ P) → (allowed s x → ⊥) → P → ⊥
  each_fails s h i x P lt is e never p = never ((subst (Each allowed next s) (left_is h i x lt is) (e.1 p)).0)

  -- nothing is left
  pub each_ends : (s : S) (h : List Item) (i : ℕ) (P : Type 0) → length h ≤ i → (Each allowed next s (drop i h) ↔ P) → P
  each_ends s h i P ge e = e.0 (subst (Each allowed next s) (sym (none_left h i ge)) tt)

  -- the state after the items up to a place, and the one there
  pub after_taken : (s : S) (h : List Item) (i : ℕ) (x : Item) → i < length h → x ≡ get_or h i x → after next s (take (i + 1) h) ≡ next (after next s (take i h)) x
  after_taken s h i x lt is = ap (after next s) (one_taken h i x lt is) ∙ after_push s (take i h) x

  -- each of the items up to a place, and the one there
  pub each_taken : (s : S) (h : List Item) (i : ℕ) (x : Item) → i < length h → x ≡ get_or h i x → Each allowed next s (take i h) → allowed (after next s (take i h)) x → Each allowed next s (take (i + 1) h)
  each_taken s h i x lt is e a = subst (Each allowed next s) (sym (one_taken h i x lt is)) (each_push s (take i h) x e a)
