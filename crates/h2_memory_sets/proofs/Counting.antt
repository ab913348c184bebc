-- How many nodes of a list pass a test.
use Rattle.std.proofs.Common.{◌≡◌, ℕ, ◌+◌, Bool, true, false, arith, refl, cond, sym, ◌∙◌, ap, List, [], ◌∷◌, ◌++◌, take, drop, length, slice_index_or, ◌<◌, Some, subst, slice_get, suc, zero}
use Rattle.std.specs.Prelude.{count_by, map}
use Rattle.std.proofs.lemmas.List.Sums.{sum_by-cons}
use Rattle.std.proofs.lemmas.Option.{none-some, slice_get-get_or}
use Rattle.h2_memory_sets.specs.declared.node.Node.{Node}

count_cons : (p : Node → Bool) (z : Node) (zs : List Node) → count_by p (z ∷ zs) ≡ cond (p z) 1 0 + count_by p zs
count_cons p z zs = rw sum_by-cons refl

pub count_same : (p q : Node → Bool) (zs : List Node) → ((i : ℕ) (t : Node) → slice_get zs i ≡ Some t → p t ≡ q t) → count_by p zs ≡ count_by q zs
count_same p q [] same = refl
count_same p q (z ∷ zs) same = count_cons p z zs ∙ both (p z) (q z) _ _ (same 0 z refl) (count_same p q zs (λ i t got. same (suc i) t got)) ∙ sym (count_cons q z zs)
  where
    both : (a b : Bool) (m n : ℕ) → a ≡ b → m ≡ n → cond a 1 0 + m ≡ cond b 1 0 + n
    both a b m n e h = ap (λ c. cond c 1 0 + m) e ∙ ap (λ k. cond b 1 0 + k) h

pub count_none : (p : Node → Bool) (zs : List Node) → ((i : ℕ) (t : Node) → slice_get zs i ≡ Some t → p t ≡ false) → count_by p zs ≡ 0
count_none p [] none = refl
count_none p (z ∷ zs) none = count_cons p z zs ∙ both (p z) _ (none 0 z refl) (count_none p zs (λ i t got. none (suc i) t got))
  where
    both : (a : Bool) (m : ℕ) → a ≡ false → m ≡ 0 → cond a 1 0 + m ≡ 0
    both true m e h = absurd (cc)
    both false m e h = omega (arith, h)

-- two tests that answer alike but at one place
pub count_one : (p q : Node → Bool) (zs : List Node) (c : ℕ) (y : Node) → slice_get zs c ≡ Some y → q y ≡ false → ((i : ℕ) (t : Node) → (i ≡ c → ⊥) → slice_get zs i ≡ Some t → p t ≡ q t) → count_by p zs ≡ count_by q zs + cond (p y) 1 0
count_one p q [] c y read off same = absurd (none-some y read)
count_one p q (z ∷ zs) zero y read off same =
    let e : z ≡ y = (cc) in
    let rest = count_same p q zs (λ i t got. same (suc i) t (λ k. omega (arith, k)) got) in
    subst (λ w. count_by p (z ∷ zs) ≡ count_by q (z ∷ zs) + cond (p w) 1 0) e (count_cons p z zs ∙ here (p z) (q z) _ _ (subst (λ w. q w ≡ false) (sym e) off) rest ∙ ap (λ n. n + cond (p z) 1 0) (sym (count_cons q z zs)))
  where
    here : (a b : Bool) (m n : ℕ) → b ≡ false → m ≡ n → cond a 1 0 + m ≡ (cond b 1 0 + n) + cond a 1 0
    here a true m n e h = absurd (cc)
    here true false m n e h = omega (arith, h)
    here false false m n e h = omega (arith, h)
count_one p q (z ∷ zs) (suc c) y read off same =
    let rest = count_one p q zs c y read off (λ i t ne got. same (suc i) t (λ k. ne (omega (arith, k))) got) in
    count_cons p z zs ∙ there (p z) (q z) (cond (p y) 1 0) _ _ (same 0 z (λ k. omega (arith, k)) refl) rest ∙ ap (λ n. n + cond (p y) 1 0) (sym (count_cons q z zs))
  where
    there : (a b : Bool) (k m n : ℕ) → a ≡ b → m ≡ n + k → cond a 1 0 + m ≡ (cond b 1 0 + n) + k
    there a b k m n e h = ap (λ c. cond c 1 0 + m) e ∙ more (cond b 1 0) k m n h
      where
        more : (x k m n : ℕ) → m ≡ n + k → x + m ≡ (x + n) + k
        more x k m n h = omega (arith, h)

-- the first nodes of a list may have changed, where the test doesn't see it
pub count_mixed : (p : Node → Bool) (h : Node → Node) → ((x : Node) → p (h x) ≡ p x) → (i : ℕ) (zs : List Node) → count_by p (map h (take i zs) ++ drop i zs) ≡ count_by p zs
count_mixed p h same zero [] = refl
count_mixed p h same zero (z ∷ zs) = refl
count_mixed p h same (suc i) [] = refl
count_mixed p h same (suc i) (z ∷ zs) = count_cons p (h z) (map h (take i zs) ++ drop i zs) ∙ both (p (h z)) (p z) _ _ (same z) (count_mixed p h same i zs) ∙ sym (count_cons p z zs)
  where
    both : (a b : Bool) (m n : ℕ) → a ≡ b → m ≡ n → cond a 1 0 + m ≡ cond b 1 0 + n
    both a b m n e k = ap (λ c. cond c 1 0 + m) e ∙ ap (λ j. cond b 1 0 + j) k

-- two readings of one place
pub same_read : (xs : List Node) (i : ℕ) (x y : Node) → i < length xs → x ≡ slice_index_or xs i x → y ≡ slice_index_or xs i y → x ≡ y
same_read xs i x y lt x_is y_is = x_is ∙ one (slice_index_or xs i x) (slice_index_or xs i y) (sym (slice_get-get_or xs i x lt) ∙ slice_get-get_or xs i y lt) ∙ sym y_is
  where
    one : (a b : Node) → Some a ≡ Some b → a ≡ b
    one a b e = cc
