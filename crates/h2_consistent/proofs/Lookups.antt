-- Whether two keys are one, and what a finite map has at a key after a change at one.
use Rattle.std.specs.Prelude.{◌≡◌, ◌≢◌, ◌⊎◌, Bool, true, false, cond, Some, None, refl}
use Rattle.std.specs.declared.cmp.Ordering.{Ordering}
use Rattle.std.specs.declared.cmp.Ordering.TheVariants.{Less, Equal, Greater}
use Rattle.std.specs.Ordering.{eq_by_cmp, is_eq}
use Rattle.std.specs.Cmp.{IsTotalOrder, eq_by_cmp_equiv}
use Rattle.std.specs.FinMap.{FinMap, IsAntisymmetric, get, insert, remove, get-insert, get-remove}
use Rattle.std.proofs.Common.{ap, sym, ◌∙◌, inl, inr}

tied : (r : Ordering) → is_eq r ≡ true → r ≡ Equal
tied Less e = absurd (cc)
tied Equal e = refl
tied Greater e = absurd (cc)

true_not_false : true ≡ false → ⊥
true_not_false e = cc

module _ {K : Type 0} {R : K → K → Ordering} (o : IsTotalOrder R) (exact : IsAntisymmetric R) where
  equal_keys : (x y : K) → eq_by_cmp R x y ≡ true → x ≡ y
  equal_keys x y e = exact x y (tied (R x y) e)

  unequal_keys : (x y : K) → eq_by_cmp R x y ≡ false → x ≢ y
  unequal_keys x y e same = true_not_false (sym ((eq_by_cmp_equiv o).refl x) ∙ ap (eq_by_cmp R x) same ∙ e)

  -- two keys are one or not
  pub same_key : (x y : K) → (x ≡ y) ⊎ (x ≢ y)
  same_key x y = by (eq_by_cmp R x y) refl
    where
      by : (b : Bool) → eq_by_cmp R x y ≡ b → (x ≡ y) ⊎ (x ≢ y)
      by true e = inl (equal_keys x y e)
      by false e = inr (unequal_keys x y e)

  pub told_apart : (x y : K) → x ≢ y → eq_by_cmp R x y ≡ false
  told_apart x y d = by (eq_by_cmp R x y) refl
    where
      by : (b : Bool) → eq_by_cmp R x y ≡ b → b ≡ false
      by true e = absurd (d (equal_keys x y e))
      by false e = refl

  module _ {X : Type 0} (m : FinMap R X) (k : K) where
    pub inserted_here : (v : X) → get (insert m k v) k ≡ Some v
    inserted_here v = get-insert o m k v k ∙ ap (λ b. cond b (Some v) (get m k)) ((eq_by_cmp_equiv o).refl k)

    pub inserted_there : (v : X) (q : K) → q ≢ k → get (insert m k v) q ≡ get m q
    inserted_there v q d = get-insert o m k v q ∙ ap (λ b. cond b (Some v) (get m q)) (told_apart q k d)

    pub removed_here : get (remove m k) k ≡ None
    removed_here = get-remove o m k k ∙ ap (λ b. cond b None (get m k)) ((eq_by_cmp_equiv o).refl k)

    pub removed_there : (q : K) → q ≢ k → get (remove m k) q ≡ get m q
    removed_there q d = get-remove o m k q ∙ ap (λ b. cond b None (get m q)) (told_apart q k d)
