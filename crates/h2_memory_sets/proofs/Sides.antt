-- Where keys and references lie to the range of a split.
use Rattle.std.proofs.Common.{◌≡◌, ℕ, ◌+◌, ◌<◌, ◌≤◌, ◌^◌, Bool, true, false, arith, refl, cond, sym, List, [], ◌∷◌, length, ◌⊎◌, inl, inr, suc}
use Rattle.std.specs.Prelude.{not, count_by}
use Rattle.std.proofs.lemmas.Bool.{cases_lt}
use Rattle.std.proofs.lemmas.Nat.{pow_pos}
use Rattle.std.proofs.lemmas.List.Sums.{sum_by-cons}
use Rattle.h2_ref.specs.declared.reference.Ref.{Ref}
use Rattle.h2_set.specs.Ranges.{Rising, limit, lies, Sides}
use Rattle.h2_set.specs.ChangeLaws.{same_or_not}
use Rattle.h2_set.specs.SplitLaws.{lies_in}

pub same_bool : (a b : Bool) → (a ≡ true → b ≡ true) → (b ≡ true → a ≡ true) → a ≡ b
same_bool true b to from = sym (to refl)
same_bool false true to from = from refl
same_bool false false to from = refl

-- where a key lies to a range
pub data Lies (key bits k : ℕ) : Type 0 where
  at_start : k ≡ key → Lies key bits k
  in_range : (k ≡ key → ⊥) → key ≤ k → k < key + 2 ^ bits → Lies key bits k
  outside : (k < key) ⊎ (key + 2 ^ bits ≤ k) → Lies key bits k

pub where_lies : (key bits k : ℕ) → Lies key bits k
where_lies key bits k = elim (cases_lt k key) as (λ _. Lies key bits k) [
  | inl lt ↦ outside (inl lt)
  | inr ge ↦ elim (cases_lt k (key + 2 ^ bits)) as (λ _. Lies key bits k) [
    | inr past ↦ outside (inr past)
    | inl within ↦ elim (same_or_not k key) as (λ _. Lies key bits k) [
      | inl e ↦ at_start e
      | inr ne ↦ in_range ne ge within
    ]
  ]
]

-- a count of the others
pub count_not : (p : Ref → Bool) (rs : List Ref) → count_by p rs + count_by (λ q. not (p q)) rs ≡ length rs
count_not p [] = refl
count_not p (r ∷ rs) = rw (sum_by-cons, sum_by-cons) (head (p r) (count_not p rs))
  where
    head : (b : Bool) → count_by p rs + count_by (λ q. not (p q)) rs ≡ length rs → (cond b 1 0 + count_by p rs) + (cond (not b) 1 0 + count_by (λ q. not (p q)) rs) ≡ suc (length rs)
    head true e = omega (arith, e)
    head false e = omega (arith, e)

pub not_false : (b : Bool) → not b ≡ true → b ≡ false
not_false true e = absurd (cc)
not_false false e = refl

-- a reference that doesn't lie in the range is apart from it
pub off_range : (key bits : ℕ) (q : Ref) → Sides key bits q → lies key bits q ≡ false → (limit q ≤ key) ⊎ (key + 2 ^ bits ≤ q.key)
off_range key bits q (inl e) miss = let e2 : lies key bits q ≡ true = e in let e3 : lies key bits q ≡ false = miss in absurd (cc)
off_range key bits q (inr out) miss = out

-- one whose key is in the range lies in it
pub on_range : (key bits : ℕ) (q : Ref) → Sides key bits q → key ≤ q.key → q.key < key + 2 ^ bits → lies key bits q ≡ true
on_range key bits q (inl e) lo hi = e
on_range key bits q (inr (inl before)) lo hi = let pos = pow_pos q.keybits in absurd (omega (arith, before, lo, pos))
on_range key bits q (inr (inr after)) lo hi = absurd (omega (arith, after, hi))

-- a key before or behind the range, of a reference that is apart from it
pub off_key : (key bits : ℕ) (q : Ref) → (limit q ≤ key) ⊎ (key + 2 ^ bits ≤ q.key) → (q.key < key) ⊎ (key + 2 ^ bits ≤ q.key)
off_key key bits q (inl before) = let pos = pow_pos q.keybits in inl (omega (arith, before, pos))
off_key key bits q (inr after) = inr after

pub off_lies : (key bits : ℕ) (q : Ref) → (q.key < key) ⊎ (key + 2 ^ bits ≤ q.key) → (b : Bool) → lies key bits q ≡ b → b ≡ false
off_lies key bits q out false e = refl
off_lies key bits q (inl before) true e = let it = lies_in key bits q e in absurd (omega (arith, before, it.0))
off_lies key bits q (inr after) true e = let it = lies_in key bits q e in let pos = pow_pos q.keybits in absurd (omega (arith, after, it.1, pos))

pub Rising-wide : (low high high' : ℕ) (rs : List Ref) → high ≤ high' → Rising low high rs → Rising low high' rs
Rising-wide low high high' [] le h = omega (arith, le, h)
Rising-wide low high high' (r ∷ rs) le h = (h.0, Rising-wide (limit r) high high' rs le h.1)
