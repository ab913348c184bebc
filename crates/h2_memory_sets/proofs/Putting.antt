-- A reference that is put in place of another.
use Rattle.std.proofs.Common.{◌≡◌, ℕ, ◌<◌, ◌≤◌, true, false, arith, refl, sym, ◌∙◌, ap, List, [], ◌∷◌, Some, subst, inl, inr, slice_get, suc, zero, nat_lt}
use Rattle.std.specs.List.{remove}
use Rattle.std.proofs.lemmas.Bool.{cases_lt}
use Rattle.std.proofs.lemmas.Bool.Decides.{nat_tests}
use Rattle.std.proofs.lemmas.Nat.{pow_pos}
use Rattle.std.proofs.lemmas.Option.{none-some}
use Rattle.h2_ref.specs.declared.reference.Ref.{Ref}
use Rattle.h2_set.specs.Ranges.{Rising, limit, holds, NoneHolds, put, Apart, IsApart}
use Rattle.h2_set.specs.LeafLaws.{Rising-le, place_above, holds_inside}
use Rattle.h2_set.specs.ChangeLaws.{put_below}

lt_true : (a b : ℕ) → a < b → nat_lt a b ≡ true
lt_true a b h = grind (arith, nat_tests)

lt_false : (a b : ℕ) → b ≤ a → nat_lt a b ≡ false
lt_false a b h = grind (arith, nat_tests)

-- where one key stands to another
data Order (a b : ℕ) : Type 0 where
  before : a < b → Order a b
  same : a ≡ b → Order a b
  behind : b < a → Order a b

order : (a b : ℕ) → Order a b
order a b = elim (cases_lt a b) as (λ _. Order a b) [
  | inl lt ↦ before lt
  | inr ge ↦ elim (cases_lt b a) as (λ _. Order a b) [
    | inl gt ↦ behind gt
    | inr le ↦ same (omega (arith, ge, le))
  ]
]

-- what a list is once a reference was put, by where its key stands to the first
put_before : (r x : Ref) (xs : List Ref) → r.key < x.key → put r (x ∷ xs) ≡ r ∷ x ∷ xs
put_before r x xs h = rw (lt_true _ _ h) refl

put_same : (r x : Ref) (xs : List Ref) → r.key ≡ x.key → put r (x ∷ xs) ≡ r ∷ xs
put_same r x xs h = rw (lt_false r.key x.key (omega (arith, h)), lt_false x.key r.key (omega (arith, h))) refl

put_behind : (r x : Ref) (xs : List Ref) → x.key < r.key → put r (x ∷ xs) ≡ x ∷ put r xs
put_behind r x xs h = rw (lt_false r.key x.key (omega (arith, h)), lt_true x.key r.key h) refl

put_low : (low high : ℕ) (r : Ref) (rs : List Ref) → Rising low high (put r rs) → low ≤ r.key
put_low low high r [] h = h.0
put_low low high r (x ∷ xs) h = elim (order r.key x.key) as (λ _. low ≤ r.key) [
  | before lt ↦ (subst (Rising low high) (put_before r x xs lt) h).0
  | same e ↦ (subst (Rising low high) (put_same r x xs e) h).0
  | behind gt ↦ let le = (subst (Rising low high) (put_behind r x xs gt) h).0 in omega (arith, le, gt)
]

pub put_limit : (low high : ℕ) (r : Ref) (rs : List Ref) → Rising low high (put r rs) → limit r ≤ high
put_limit low high r [] h = h.1
put_limit low high r (x ∷ xs) h = elim (order r.key x.key) as (λ _. limit r ≤ high) [
  | before lt ↦ Rising-le (limit r) high (x ∷ xs) (subst (Rising low high) (put_before r x xs lt) h).1
  | same e ↦ Rising-le (limit r) high xs (subst (Rising low high) (put_same r x xs e) h).1
  | behind gt ↦ put_limit (limit x) high r xs (subst (Rising low high) (put_behind r x xs gt) h).1
]

-- a list behind a reference is apart from it
behind_all : (r : Ref) (high : ℕ) (xs : List Ref) → Rising (limit r) high xs → IsApart r xs
behind_all r high xs h i q read = inl (place_above (limit r) high xs i q h read)

-- and holds no key of it
none_behind : (r : Ref) (high : ℕ) (xs : List Ref) (i : ℕ) (q : Ref) → Rising (limit r) high xs → slice_get xs i ≡ Some q → holds r.key q ≡ true → ⊥
none_behind r high xs i q h read e =
    let above = place_above (limit r) high xs i q h read in
    let it = holds_inside r.key q e in
    let pos = pow_pos r.keybits in
    omega (arith, above, it.0, pos)

apart_cons : (r x : Ref) (xs : List Ref) → Apart r x → IsApart r xs → IsApart r (x ∷ xs)
apart_cons r x xs a rest zero q read = let e : x ≡ q = (cc) in subst (Apart r) e a
apart_cons r x xs a rest (suc i) q read = rest i q read

-- where no range holds its key, it is apart from all
pub put_none : (low high : ℕ) (r : Ref) (rs : List Ref) → Rising low high (put r rs) → NoneHolds r.key rs → IsApart r rs
put_none low high r [] h miss = λ i q read. absurd (none-some q read)
put_none low high r (x ∷ xs) h miss = elim (order r.key x.key) as (λ _. IsApart r (x ∷ xs)) [
  | before lt ↦ behind_all r high (x ∷ xs) (subst (Rising low high) (put_before r x xs lt) h).1
  | same e ↦
      let pos = pow_pos x.keybits in
      let yes' : holds r.key x ≡ true = grind (arith, nat_tests) in
      let clash : true ≡ false = sym yes' ∙ miss 0 x refl in
      absurd (cc)
  | behind gt ↦
      let rest = (subst (Rising low high) (put_behind r x xs gt) h).1 in
      apart_cons r x xs (inr (put_low (limit x) high r xs rest)) (put_none (limit x) high r xs rest (λ i q read. miss (suc i) q read))
]

-- where one does, it is put in place of that one
pub put_cut : (low high : ℕ) (r : Ref) (rs : List Ref) (i : ℕ) (q : Ref) → Rising low high (put r rs) → slice_get rs i ≡ Some q → holds r.key q ≡ true → IsApart r (remove rs i) × (put r (remove rs i) ≡ put r rs)
put_cut low high r [] i q h read e = absurd (none-some q read)
put_cut low high r (x ∷ xs) i q h read e = elim (order r.key x.key) as (λ _. IsApart r (remove (x ∷ xs) i) × (put r (remove (x ∷ xs) i) ≡ put r (x ∷ xs))) [
  | before lt ↦ absurd (none_behind r high (x ∷ xs) i q (subst (Rising low high) (put_before r x xs lt) h).1 read e)
  | same k ↦ at_it i read (subst (Rising low high) (put_same r x xs k) h).1 k
  | behind gt ↦ past i read (subst (Rising low high) (put_behind r x xs gt) h).1 gt (λ j. put_cut (limit x) high r xs j q)
]
  where
    at_it : (i : ℕ) → slice_get (x ∷ xs) i ≡ Some q → Rising (limit r) high xs → r.key ≡ x.key → IsApart r (remove (x ∷ xs) i) × (put r (remove (x ∷ xs) i) ≡ put r (x ∷ xs))
    at_it zero read rest k =
        let pos = pow_pos r.keybits in
        (behind_all r high xs rest, put_below r (limit r) high xs rest (omega (arith, pos)) ∙ sym (put_same r x xs k))
    at_it (suc j) read rest k = absurd (none_behind r high xs j q rest read e)

    past : (i : ℕ) → slice_get (x ∷ xs) i ≡ Some q → Rising (limit x) high (put r xs) → x.key < r.key → ((j : ℕ) → Rising (limit x) high (put r xs) → slice_get xs j ≡ Some q → holds r.key q ≡ true → IsApart r (remove xs j) × (put r (remove xs j) ≡ put r xs)) → IsApart r (remove (x ∷ xs) i) × (put r (remove (x ∷ xs) i) ≡ put r (x ∷ xs))
    past zero read rest gt ih =
        let same_one : x ≡ q = (cc) in
        let le = put_low (limit x) high r xs rest in
        let it = holds_inside r.key q e in
        let top : limit x ≡ limit q = ap (λ (z : Ref). limit z) same_one in
        absurd (omega (arith, le, it.1, top))
    past (suc j) read rest gt ih =
        let it = ih j rest read e in
        (apart_cons r x (remove xs j) (inr (put_low (limit x) high r xs rest)) it.0, put_behind r x (remove xs j) gt ∙ ap (λ (l : List Ref). x ∷ l) it.1 ∙ sym (put_behind r x xs gt))
