-- Places in lists, and references that name what is below.
use Rattle.std.proofs.Common.{◌≡◌, ℕ, ◌+◌, ◌<◌, ◌≤◌, ◌^◌, Bool, true, false, ◌&&◌, arith, refl, cond, sym, ◌∙◌, ap, List, [], ◌∷◌, Some, subst, inl, inr, slice_get, suc, zero, nat_eq}
use Rattle.std.specs.Prelude.{filter}
use Rattle.std.proofs.lemmas.Bool.Decides.{nat_tests}
use Rattle.std.proofs.lemmas.Nat.{pow_pos}
use Rattle.std.proofs.lemmas.Option.{none-some}
use Rattle.h2_ref.specs.declared.reference.Ref.{Ref}
use Rattle.h2_set.specs.Ranges.{Rising, limit, lies, put, is_indirect, IsApart}
use Rattle.h2_set.specs.Forest.{NamesBelow}
use Rattle.h2_set.specs.EditLaws.{before_apart, behind_apart, apart_tail}
use Rattle.h2_set.specs.LeafLaws.{place_above}
use Rattle.h2_set.specs.SplitLaws.{lies_in}
use Rattle.h2_memory_sets.specs.View.{names}

-- a key that is named, and one that isn't
pub names_below : (rs : List Ref) (k : ℕ) → names rs k ≡ true → NamesBelow rs k
names_below [] k e = absurd (cc)
names_below (r ∷ rs) k e = head (is_indirect r) refl (nat_eq r.key k) refl e (names_below rs k)
  where
    head : (a : Bool) → is_indirect r ≡ a → (b : Bool) → nat_eq r.key k ≡ b → cond (a && b) true (names rs k) ≡ true → (names rs k ≡ true → NamesBelow rs k) → NamesBelow (r ∷ rs) k
    head true ind true same e ih = record { place = 0; ref = r; read = refl; indirect = ind; key = grind (arith, nat_tests) }
    head true ind false same e ih = let it = ih e in record { place = suc it.place; ref = it.ref; read = it.read; indirect = it.indirect; key = it.key }
    head false ind b same e ih = let it = ih e in record { place = suc it.place; ref = it.ref; read = it.read; indirect = it.indirect; key = it.key }

pub below_names : (rs : List Ref) (k : ℕ) (i : ℕ) (r : Ref) → slice_get rs i ≡ Some r → is_indirect r ≡ true → r.key ≡ k → names rs k ≡ true
below_names [] k i r read ind key = absurd (none-some r read)
below_names (x ∷ rs) k zero r read ind key =
    let same : x ≡ r = (cc) in
    let e : nat_eq r.key k ≡ true = grind (arith, nat_tests) in
    rw (same, ind, e) refl
below_names (x ∷ rs) k (suc i) r read ind key = step (is_indirect x && nat_eq x.key k) (below_names rs k i r read ind key)
  where
    step : (b : Bool) → names rs k ≡ true → cond b true (names rs k) ≡ true
    step true ih = refl
    step false ih = ih

-- what a filter lets through, and what it keeps
pub record Filtered (p : Ref → Bool) (rs : List Ref) (r : Ref) : Type 0 where
  pub passes : p r ≡ true
  pub place : ℕ
  pub read : slice_get rs place ≡ Some r

pub filter_from : (p : Ref → Bool) (rs : List Ref) (i : ℕ) (r : Ref) → slice_get (filter p rs) i ≡ Some r → Filtered p rs r
filter_from p [] i r read = absurd (none-some r read)
filter_from p (x ∷ rs) i r read = head (p x) refl i read (filter_from p rs)
  where
    up : Filtered p rs r → Filtered p (x ∷ rs) r
    up it = record { passes = it.passes; place = suc it.place; read = it.read }

    head : (b : Bool) → p x ≡ b → (i : ℕ) → slice_get (cond b (x ∷ filter p rs) (filter p rs)) i ≡ Some r → ((i : ℕ) (q : Ref) → slice_get (filter p rs) i ≡ Some q → Filtered p rs q) → Filtered p (x ∷ rs) r
    head true e zero read ih = let same : x ≡ r = (cc) in record { passes = subst (λ z. p z ≡ true) same e; place = 0; read = ap Some same }
    head true e (suc i) read ih = up (ih i r read)
    head false e i read ih = up (ih i r read)

pub filter_keeps : (p : Ref → Bool) (rs : List Ref) (i : ℕ) (r : Ref) → slice_get rs i ≡ Some r → p r ≡ true → (j : ℕ) × (slice_get (filter p rs) j ≡ Some r)
filter_keeps p [] i r read e = absurd (none-some r read)
filter_keeps p (x ∷ rs) zero r read e = let same : x ≡ r = (cc) in rw (same, e) (0, refl)
filter_keeps p (x ∷ rs) (suc i) r read e = head (p x) (filter_keeps p rs i r read e)
  where
    head : (b : Bool) → (j : ℕ) × (slice_get (filter p rs) j ≡ Some r) → (j : ℕ) × (slice_get (cond b (x ∷ filter p rs) (filter p rs)) j ≡ Some r)
    head true it = (suc it.0, it.1)
    head false it = it

-- where a reference that was put stands
pub put_there : (r : Ref) (rs : List Ref) → IsApart r rs → (i : ℕ) × (slice_get (put r rs) i ≡ Some r)
put_there r [] a = (0, refl)
put_there r (x ∷ rs) a = elim (a 0 x refl) as (λ _. (i : ℕ) × (slice_get (put r (x ∷ rs)) i ≡ Some r)) [
  | inl lower ↦ rw (before_apart r x lower) (0, refl)
  | inr upper ↦ let e = behind_apart r x upper in let it = put_there r rs (apart_tail r x rs a) in rw (e.0, e.1) (suc it.0, it.1)
]

-- references that lie in a range, in order
within_rest : (key bits low high : ℕ) (qs : List Ref) → Rising low high qs → ((i : ℕ) (q : Ref) → slice_get qs i ≡ Some q → lies key bits q ≡ true) → low ≤ key + 2 ^ bits → Rising low (key + 2 ^ bits) qs
within_rest key bits low high [] h all top = top
within_rest key bits low high (q ∷ qs) h all top = (h.0, within_rest key bits (limit q) high qs h.1 (λ i x read. all (suc i) x read) (lies_in key bits q (all 0 q refl)).1)

pub Rising-within : (key bits low high : ℕ) (rs : List Ref) → Rising low high rs → ((i : ℕ) (r : Ref) → slice_get rs i ≡ Some r → lies key bits r ≡ true) → Rising key (key + 2 ^ bits) rs
Rising-within key bits low high [] h all = omega arith
Rising-within key bits low high (r ∷ rs) h all =
    let it = lies_in key bits r (all 0 r refl) in
    (it.0, within_rest key bits (limit r) high rs h.1 (λ i q read. all (suc i) q read) it.1)

-- two references of a list in order that have the same key are the same
above_low : (low high : ℕ) (rs : List Ref) (i : ℕ) (q : Ref) → Rising low high rs → slice_get rs i ≡ Some q → q.key < low → ⊥
above_low low high rs i q h read lt = let le = place_above low high rs i q h read in omega (arith, le, lt)

head_key : (x q r : Ref) (high : ℕ) (rs : List Ref) (i : ℕ) → Rising (limit x) high rs → slice_get rs i ≡ Some q → x ≡ r → r.key ≡ q.key → ⊥
head_key x q r high rs i h read same e =
    let pos = pow_pos x.keybits in
    let k = ap (λ (z : Ref). z.key) same in
    above_low (limit x) high rs i q h read (omega (arith, pos, e, k))

pub same_key : (low high : ℕ) (rs : List Ref) (i j : ℕ) (r q : Ref) → Rising low high rs → slice_get rs i ≡ Some r → slice_get rs j ≡ Some q → r.key ≡ q.key → r ≡ q
same_key low high [] i j r q h read read' e = absurd (none-some r read)
same_key low high (x ∷ rs) zero zero r q h read read' e = let a : x ≡ r = (cc) in let b : x ≡ q = (cc) in sym a ∙ b
same_key low high (x ∷ rs) zero (suc j) r q h read read' e = let a : x ≡ r = (cc) in absurd (head_key x q r high rs j h.1 read' a e)
same_key low high (x ∷ rs) (suc i) zero r q h read read' e = let a : x ≡ q = (cc) in absurd (head_key x r q high rs i h.1 read a (sym e))
same_key low high (x ∷ rs) (suc i) (suc j) r q h read read' e = same_key (limit x) high rs i j r q h.1 read read' e
