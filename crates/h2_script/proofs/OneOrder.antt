-- Two sorted lists that agree on the elements of each rank are one.
use Rattle.std.proofs.Common.{◌≡◌, refl, ℕ, suc, ◌<◌, ◌≤◌, Bool, true, false, not, ◌&&◌, cond, List, [], ◌∷◌, length, drop, get_or, sym, ap, ◌∙◌, subst, arith}
use Rattle.std.specs.Prelude.{⊤}
use Rattle.std.specs.List.{filter}
use Rattle.std.specs.List.Sorted.{IsSortedBy, ties}
use Rattle.std.specs.Cmp.{IsStrictWeakOrder}
use Rattle.std.proofs.lemmas.List.Sorted.{sorted_far}

module _ {X : Type 0} (lt : X → X → Bool) where
  -- no element is less than x
  abbrev Above : X → List X → Type 0
  Above x [] = ⊤
  Above x (y ∷ ys) = (lt y x ≡ false) × Above x ys

  abbrev Rises : List X → Type 0
  Rises [] = ⊤
  Rises (x ∷ xs) = Above x xs × Rises xs

  above_of : (x : X) (xs : List X) → ((k : ℕ) → k < length xs → lt (get_or xs k x) x ≡ false) → Above x xs
  above_of x [] h = tt
  above_of x (y ∷ ys) h = (h 0 (omega arith), above_of x ys (λ k p. h (suc k) (omega arith)))

  rises_of : (xs : List X) → ((i j : ℕ) (d : X) → i ≤ j → j < length xs → lt (get_or xs j d) (get_or xs i d) ≡ false) → Rises xs
  rises_of [] h = tt
  rises_of (x ∷ xs) h = (above_of x xs (λ k p. h 0 (suc k) x (omega arith) (omega arith)), rises_of xs (λ i j d p q. h (suc i) (suc j) d (omega arith) (omega arith)))

  above_if : (x y : X) (l : List X) (b : Bool) → lt y x ≡ false → Above x l → Above x (cond b (y ∷ l) l)
  above_if x y l true p q = (p, q)
  above_if x y l false p q = q

  above_kept : (t : X → Bool) (x : X) (xs : List X) → Above x xs → Above x (filter t xs)
  above_kept t x [] h = tt
  above_kept t x (y ∷ ys) h = above_if x y (filter t ys) (t y) h.0 (above_kept t x ys h.1)

  first_kept : (t : X → Bool) (l : List X) (z : X) (zs : List X) (x : X) → Above x l → filter t l ≡ z ∷ zs → lt z x ≡ false
  first_kept t l z zs x a e = (subst (Above x) e (above_kept t x l a)).0

  not_less : (b : Bool) → (b ≡ true → b ≡ false) → b ≡ false
  not_less true h = h refl
  not_less false h = refl

  tie_of : (b c : Bool) → b ≡ false → c ≡ false → not b && not c ≡ true
  tie_of b c p q = ap (λ x. not x && not c) p ∙ ap not q

  rest_if : (x : X) (ys zs : List X) (b : Bool) → cond b (x ∷ ys) ys ≡ cond b (x ∷ zs) zs → ys ≡ zs
  rest_if x ys zs true e = ap (drop 1) e
  rest_if x ys zs false e = e

  none_first : (x : X) (xs : List X) → [] ≡ x ∷ xs → ⊥
  none_first x xs e = let n : 0 ≡ suc (length xs) = ap length e in omega (arith, n)

  module _ (o : IsStrictWeakOrder lt) where
    free : (x : X) → lt x x ≡ false
    free x = not_less (lt x x) (o.one_way x x)

    -- an element is kept among those of its rank
    self_kept : (x : X) (xs : List X) → filter (ties lt x) (x ∷ xs) ≡ x ∷ filter (ties lt x) xs
    self_kept x xs = ap (λ b. cond b (x ∷ filter (ties lt x) xs) (filter (ties lt x) xs)) (tie_of (lt x x) (lt x x) (free x) (free x))

    first_same : (x y : X) (xs ys : List X) → Above x xs → Above y ys → ((z : X) → filter (ties lt z) (x ∷ xs) ≡ filter (ties lt z) (y ∷ ys)) → y ≡ x
    first_same x y xs ys u v same =
        let in_ys : filter (ties lt x) (y ∷ ys) ≡ x ∷ filter (ties lt x) xs = sym (same x) ∙ self_kept x xs in
        let in_xs : filter (ties lt y) (x ∷ xs) ≡ y ∷ filter (ties lt y) ys = same y ∙ self_kept y ys in
        let above : lt x y ≡ false = first_kept (ties lt x) (y ∷ ys) x (filter (ties lt x) xs) y (free y, v) in_ys in
        let below : lt y x ≡ false = first_kept (ties lt y) (x ∷ xs) y (filter (ties lt y) ys) x (free x, u) in_xs in
        let kept : y ∷ filter (ties lt x) ys ≡ x ∷ filter (ties lt x) xs = sym (ap (λ b. cond b (y ∷ filter (ties lt x) ys) (filter (ties lt x) ys)) (tie_of (lt x y) (lt y x) above below)) ∙ in_ys in
        ap (λ l. get_or l 0 x) kept

    one_order : (xs ys : List X) → Rises xs → Rises ys → ((z : X) → filter (ties lt z) xs ≡ filter (ties lt z) ys) → xs ≡ ys
    one_order [] [] u v same = refl
    one_order [] (y ∷ ys) u v same = absurd (none_first y (filter (ties lt y) ys) (same y ∙ self_kept y ys))
    one_order (x ∷ xs) [] u v same = absurd (none_first x (filter (ties lt x) xs) (sym (same x) ∙ self_kept x xs))
    one_order (x ∷ xs) (y ∷ ys) u v same =
        let first : y ≡ x = first_same x y xs ys u.0 v.0 same in
        let moved : (z : X) → filter (ties lt z) (x ∷ xs) ≡ filter (ties lt z) (x ∷ ys) = λ z. same z ∙ ap (λ a. filter (ties lt z) (a ∷ ys)) first in
        let rest : xs ≡ ys = one_order xs ys u.1 v.1 (λ z. rest_if x (filter (ties lt z) xs) (filter (ties lt z) ys) (ties lt z x) (moved z)) in
        ap (λ l. x ∷ l) rest ∙ ap (λ a. a ∷ ys) (sym first)

    pub one_sorted : (xs ys : List X) → IsSortedBy lt xs → IsSortedBy lt ys → ((z : X) → filter (ties lt z) xs ≡ filter (ties lt z) ys) → xs ≡ ys
    one_sorted xs ys up vp same = one_order xs ys (rises_of xs (sorted_far lt o xs up)) (rises_of ys (sorted_far lt o ys vp)) same
