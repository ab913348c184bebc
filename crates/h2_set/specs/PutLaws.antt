-- What putting and filtering do to references in order.
use Rattle.std.proofs.Common.{◌≡◌, ℕ, Bool, true, false, arith, refl, cond, sym, ◌∙◌, ap, List, [], ◌∷◌, Some, None, ◌⊎◌, inl, inr, slice_get, suc, zero, nat_lt}
use Rattle.std.specs.Prelude.{filter, not}
use Rattle.std.proofs.lemmas.Nat.{pow_pos}
use Rattle.std.proofs.lemmas.Option.{none-some}
use Rattle.h2_ref.specs.declared.reference.Ref.{Ref}
use Rattle.h2_set.specs.Ranges.{Rising, limit, put, lies, IsApart}
use Rattle.h2_set.specs.RefSet.{rest_of, with_rest}
use Rattle.h2_set.specs.LeafLaws.{Rising-low}
use Rattle.h2_set.specs.EditLaws.{before_apart, behind_apart, apart_tail}
use Rattle.h2_set.specs.ChangeLaws.{put_below}

pub Rising-filter : (p : Ref → Bool) (low high : ℕ) (rs : List Ref) → Rising low high rs → Rising low high (filter p rs)
Rising-filter p low high [] h = h
Rising-filter p low high (r ∷ rs) h = head (p r) (Rising-filter p (limit r) high rs h.1)
  where
    head : (b : Bool) → Rising (limit r) high (filter p rs) → Rising low high (cond b (r ∷ filter p rs) (filter p rs))
    head true rest = (h.0, rest)
    head false rest = let pos = pow_pos r.keybits in Rising-low (limit r) low high (filter p rs) (omega (arith, h.0)) rest

-- a reference that is put is filtered as all others
pub filter-put : (p : Ref → Bool) (r : Ref) (low high : ℕ) (rs : List Ref) → Rising low high rs → IsApart r rs → filter p (put r rs) ≡ cond (p r) (put r (filter p rs)) (filter p rs)
filter-put p r low high [] h a = refl
filter-put p r low high (q ∷ qs) h a = elim (a 0 q refl) as (λ _. filter p (put r (q ∷ qs)) ≡ cond (p r) (put r (filter p (q ∷ qs))) (filter p (q ∷ qs))) [
  | inl lower ↦
      let pos = pow_pos r.keybits in
      let first : put r (filter p (q ∷ qs)) ≡ r ∷ filter p (q ∷ qs) = put_below r q.key high (filter p (q ∷ qs)) (Rising-filter p q.key high (q ∷ qs) (omega arith, h.1)) (omega (arith, lower, pos)) in
      rw (before_apart r q lower) (front (p r) first)
  | inr upper ↦
      let e = behind_apart r q upper in
      rw (e.0, e.1) (back (p q) (p r) (filter-put p r (limit q) high qs h.1 (apart_tail r q qs a)) e.0 e.1)
]
  where
    front : (b : Bool) → put r (filter p (q ∷ qs)) ≡ r ∷ filter p (q ∷ qs) → cond b (r ∷ filter p (q ∷ qs)) (filter p (q ∷ qs)) ≡ cond b (put r (filter p (q ∷ qs))) (filter p (q ∷ qs))
    front true first = sym first
    front false first = refl

    back : (b d : Bool) → filter p (put r qs) ≡ cond d (put r (filter p qs)) (filter p qs) → nat_lt r.key q.key ≡ false → nat_lt q.key r.key ≡ true → cond b (q ∷ filter p (put r qs)) (filter p (put r qs)) ≡ cond d (put r (cond b (q ∷ filter p qs) (filter p qs))) (cond b (q ∷ filter p qs) (filter p qs))
    back true true ih lt gt = rw (lt, gt) (ap (λ (l : List Ref). q ∷ l) ih)
    back true false ih lt gt = ap (λ (l : List Ref). q ∷ l) ih
    back false true ih lt gt = ih
    back false false ih lt gt = ih

-- what a split keeps, with the reference that is left over
pub kept_rest : (key bits : ℕ) (r : Ref) (low high : ℕ) (rs : List Ref) → Rising low high rs → IsApart r rs → with_rest (rest_of key bits r) (filter (λ q. not (lies key bits q)) rs) ≡ filter (λ q. not (lies key bits q)) (put r rs)
kept_rest key bits r low high rs h a = sides (lies key bits r) ∙ sym (filter-put (λ q. not (lies key bits q)) r low high rs h a)
  where
    sides : (b : Bool) → with_rest (cond b None (Some r)) (filter (λ q. not (lies key bits q)) rs) ≡ cond (not b) (put r (filter (λ q. not (lies key bits q)) rs)) (filter (λ q. not (lies key bits q)) rs)
    sides true = refl
    sides false = refl

-- what is read of a list with a leaf put in
pub put_from : (leaf : Ref) (rs : List Ref) → IsApart leaf rs → (i : ℕ) (r : Ref) → slice_get (put leaf rs) i ≡ Some r → (r ≡ leaf) ⊎ ((j : ℕ) × (slice_get rs j ≡ Some r))
put_from leaf [] a zero r read = let same : leaf ≡ r = (cc) in inl (sym same)
put_from leaf [] a (suc i) r read = absurd (none-some r read)
put_from leaf (x ∷ xs) a i r read = elim (a 0 x refl) as (λ _. (r ≡ leaf) ⊎ ((j : ℕ) × (slice_get (x ∷ xs) j ≡ Some r))) [
  | inl lower ↦ front i (rw (before_apart leaf x lower) at read)
  | inr upper ↦ let e = behind_apart leaf x upper in back i (rw (e.0, e.1) at read) (put_from leaf xs (apart_tail leaf x xs a))
]
  where
    front : (i : ℕ) → slice_get (leaf ∷ (x ∷ xs)) i ≡ Some r → (r ≡ leaf) ⊎ ((j : ℕ) × (slice_get (x ∷ xs) j ≡ Some r))
    front zero read = let same : leaf ≡ r = (cc) in inl (sym same)
    front (suc i) read = inr (i, read)

    back : (i : ℕ) → slice_get (x ∷ put leaf xs) i ≡ Some r → ((i : ℕ) (r : Ref) → slice_get (put leaf xs) i ≡ Some r → (r ≡ leaf) ⊎ ((j : ℕ) × (slice_get xs j ≡ Some r))) → (r ≡ leaf) ⊎ ((j : ℕ) × (slice_get (x ∷ xs) j ≡ Some r))
    back zero read ih = inr (0, read)
    back (suc i) read ih = elim (ih i r read) as (λ _. (r ≡ leaf) ⊎ ((j : ℕ) × (slice_get (x ∷ xs) j ≡ Some r))) [
      | inl e ↦ inl e
      | inr w ↦ inr (suc w.0, w.1)
    ]

-- what stood in the list stands in it still
pub put_keeps : (leaf : Ref) (rs : List Ref) → IsApart leaf rs → (j : ℕ) (r : Ref) → slice_get rs j ≡ Some r → (i : ℕ) × (slice_get (put leaf rs) i ≡ Some r)
put_keeps leaf [] a j r read = absurd (none-some r read)
put_keeps leaf (x ∷ xs) a j r read = elim (a 0 x refl) as (λ _. (i : ℕ) × (slice_get (put leaf (x ∷ xs)) i ≡ Some r)) [
  | inl lower ↦ (suc j, rw (before_apart leaf x lower) read)
  | inr upper ↦ let e = behind_apart leaf x upper in rw (e.0, e.1) (back j read (put_keeps leaf xs (apart_tail leaf x xs a)))
]
  where
    back : (j : ℕ) → slice_get (x ∷ xs) j ≡ Some r → ((j : ℕ) (r : Ref) → slice_get xs j ≡ Some r → (i : ℕ) × (slice_get (put leaf xs) i ≡ Some r)) → (i : ℕ) × (slice_get (x ∷ put leaf xs) i ≡ Some r)
    back zero read ih = (0, read)
    back (suc j) read ih = let it = ih j r read in (suc it.0, it.1)
