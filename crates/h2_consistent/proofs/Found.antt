-- What stands in lists of PFSs and among the open handles.
use Rattle.std.specs.Prelude.{◌≡◌, ◌≢◌, ◌⊎◌, ℕ, zero, suc, ◌+◌, ◌<◌, List, [], ◌∷◌, ◌++◌, length, take, drop, map, cond, Bool, true, false, ◌||◌, T, nat_eq, slice_set, slice_index_or, count_by, Option, Some, None, refl}
use Rattle.std.specs.declared.cmp.Ordering.{Ordering}
use Rattle.std.specs.List.{Contains, list_any}
use Rattle.std.specs.Ordering.{eq_by_cmp}
use Rattle.std.specs.Cmp.{IsTotalOrder}
use Rattle.std.specs.FinMap.{IsAntisymmetric}
use Rattle.std.specs.FinMap.Entries.{find, is_sorted, below_all}
use Rattle.std.proofs.Common.{ap, sym, ◌∙◌, subst, arith, inl, inr}
use Rattle.std.proofs.lemmas.List.Sums.{sum_by-cons}
use Rattle.h2_forest.specs.declared.pfs.Pfs.{Pfs}
use Rattle.h2_forest.specs.Forest.{PlainForest, first_from, pfs_with_id, opened_in}
use Rattle.h2_consistent.proofs.Listed.{both_parts, found_first, found_later, later_none}

-- Elements of a list

module _ {X : Type 0} where
  pub has_first : (x : X) (xs : List X) → Contains (x ∷ xs) x
  has_first x xs = (0, omega arith, refl)

  pub has_later : (x y : X) (xs : List X) → Contains xs y → Contains (x ∷ xs) y
  has_later x y xs h = let lt : h.0 < length xs = h.1 in (suc h.0, omega arith, h.2)

  pub has_which : (x y : X) (xs : List X) → Contains (x ∷ xs) y → (x ≡ y) ⊎ Contains xs y
  has_which x y xs (zero, lt, is) = inl is
  has_which x y xs (suc k, lt, is) = inr (k, less k (length xs) lt, is)
    where
      less : (k n : ℕ) → suc k < suc n → k < n
      less k n lt = omega arith

  pub has_none : (y : X) → Contains [] y → ⊥
  has_none y h = let lt : h.0 < 0 = h.1 in omega arith

  -- another element in the place of one
  pub has_set : (xs : List X) (i : ℕ) (p q r : X) → slice_index_or xs i p ≡ p → Contains xs r
      → Contains (slice_set xs i q) r ⊎ ((r ≡ p) × Contains (slice_set xs i q) q)
  has_set [] i p q r at h = absurd (has_none r h)
  has_set (x ∷ xs) zero p q r at h = by (has_which x r xs h)
    where
      by : ((x ≡ r) ⊎ Contains xs r) → Contains (q ∷ xs) r ⊎ ((r ≡ p) × Contains (q ∷ xs) q)
      by (inl s) = inr (sym s ∙ at, has_first q xs)
      by (inr later) = inl (has_later q r xs later)
  has_set (x ∷ xs) (suc i) p q r at h = by (has_which x r xs h) (has_set xs i p q r at)
    where
      rest : Contains (slice_set xs i q) r ⊎ ((r ≡ p) × Contains (slice_set xs i q) q)
          → Contains (x ∷ slice_set xs i q) r ⊎ ((r ≡ p) × Contains (x ∷ slice_set xs i q) q)
      rest (inl there) = inl (has_later x r (slice_set xs i q) there)
      rest (inr there) = inr (there.0, has_later x q (slice_set xs i q) there.1)

      by : ((x ≡ r) ⊎ Contains xs r)
          → (Contains xs r → Contains (slice_set xs i q) r ⊎ ((r ≡ p) × Contains (slice_set xs i q) q))
          → Contains (x ∷ slice_set xs i q) r ⊎ ((r ≡ p) × Contains (x ∷ slice_set xs i q) q)
      by (inl s) later = inl (subst (Contains (x ∷ slice_set xs i q)) s (has_first x (slice_set xs i q)))
      by (inr there) later = rest (later there)

  -- without the one at a place
  pub has_left : (xs : List X) (i : ℕ) (p r : X) → slice_index_or xs i p ≡ p → Contains xs r
      → Contains (take i xs ++ drop (suc i) xs) r ⊎ (r ≡ p)
  has_left [] i p r at h = absurd (has_none r h)
  has_left (x ∷ xs) zero p r at h = by (has_which x r xs h)
    where
      by : ((x ≡ r) ⊎ Contains xs r) → Contains xs r ⊎ (r ≡ p)
      by (inl s) = inr (sym s ∙ at)
      by (inr later) = inl later
  has_left (x ∷ xs) (suc i) p r at h = by (has_which x r xs h) (has_left xs i p r at)
    where
      rest : Contains (take i xs ++ drop (suc i) xs) r ⊎ (r ≡ p)
          → Contains (x ∷ (take i xs ++ drop (suc i) xs)) r ⊎ (r ≡ p)
      rest (inl there) = inl (has_later x r (take i xs ++ drop (suc i) xs) there)
      rest (inr s) = inr s

      by : ((x ≡ r) ⊎ Contains xs r) → (Contains xs r → Contains (take i xs ++ drop (suc i) xs) r ⊎ (r ≡ p))
          → Contains (x ∷ (take i xs ++ drop (suc i) xs)) r ⊎ (r ≡ p)
      by (inl s) later = inl (subst (Contains (x ∷ (take i xs ++ drop (suc i) xs))) s (has_first x (take i xs ++ drop (suc i) xs)))
      by (inr there) later = rest (later there)

-- a mapped list has what its elements become, and nothing else
module _ {X Y : Type 0} (f : X → Y) where
  pub has_mapped : (xs : List X) (x : X) → Contains xs x → Contains (map f xs) (f x)
  has_mapped [] x h = absurd (has_none x h)
  has_mapped (y ∷ xs) x h = by (has_which y x xs h) (has_mapped xs x)
    where
      by : ((y ≡ x) ⊎ Contains xs x) → (Contains xs x → Contains (map f xs) (f x)) → Contains (f y ∷ map f xs) (f x)
      by (inl s) later = subst (λ z. Contains (f y ∷ map f xs) (f z)) s (has_first (f y) (map f xs))
      by (inr there) later = has_later (f y) (f x) (map f xs) (later there)

  pub mapped_from : (xs : List X) (y : Y) → Contains (map f xs) y → (x : X) × (Contains xs x × (f x ≡ y))
  mapped_from [] y h = absurd (has_none y h)
  mapped_from (x ∷ xs) y h = by (has_which (f x) y (map f xs) h) (mapped_from xs y)
    where
      by : ((f x ≡ y) ⊎ Contains (map f xs) y) → (Contains (map f xs) y → (z : X) × (Contains xs z × (f z ≡ y)))
          → (z : X) × (Contains (x ∷ xs) z × (f z ≡ y))
      by (inl s) later = (x, (has_first x xs, s))
      by (inr there) later = let rest = later there in (rest.0, (has_later x rest.0 xs rest.1.0, rest.1.1))

no_pair : (found : ℕ × Pfs) → None ≡ Some found → ⊥
no_pair found e = cc

same_pair : (k : ℕ) (x : Pfs) (found : ℕ × Pfs) → Some (k, x) ≡ Some found → (k, x) ≡ found
same_pair k x found e = cc

-- the PFS that is found stands at its place
found_at : (test : Pfs → Bool) (k : ℕ) (ps : List Pfs) (found : ℕ × Pfs) → first_from test k ps ≡ Some found
    → (j : ℕ) × ((found.0 ≡ k + j) × (slice_index_or ps j found.1 ≡ found.1))
found_at test k [] found e = absurd (no_pair found e)
found_at test k (x ∷ ps) found e = by (test x) e (found_at test (k + 1) ps found)
  where
    by : (b : Bool) → cond b (Some (k, x)) (first_from test (k + 1) ps) ≡ Some found
        → (first_from test (k + 1) ps ≡ Some found → (j : ℕ) × ((found.0 ≡ (k + 1) + j) × (slice_index_or ps j found.1 ≡ found.1)))
        → (j : ℕ) × ((found.0 ≡ k + j) × (slice_index_or (x ∷ ps) j found.1 ≡ found.1))
    by true e later =
        let s = same_pair k x found e in
        let here : k ≡ found.0 = ap (λ (w : ℕ × Pfs). w.0) s in
        (0, (omega arith, ap (λ (w : ℕ × Pfs). w.1) s))
    by false e later = let r = later e in let j = r.0 in let there : found.0 ≡ (k + 1) + j = r.1.0 in (suc j, (omega arith, r.1.1))

pub at_found : (test : Pfs → Bool) (ps : List Pfs) (found : ℕ × Pfs) → first_from test 0 ps ≡ Some found
    → slice_index_or ps found.0 found.1 ≡ found.1
at_found test ps found e =
    let r = found_at test 0 ps found e in
    let j = r.0 in
    let there : found.0 ≡ 0 + j = r.1.0 in
    let at : j ≡ found.0 = omega arith in
    subst (λ n. slice_index_or ps n found.1 ≡ found.1) at r.1.1

no_file : (here : ℕ × (Pfs × ℕ)) → None ≡ Some here → ⊥
no_file here e = cc

-- so does the PFS of an open file
pub opened_at : (f : PlainForest) (o : Option (ℕ × ℕ)) (here : ℕ × (Pfs × ℕ)) → opened_in f o ≡ Some here
    → slice_index_or f.pfss here.0 here.1.0 ≡ here.1.0
opened_at f None here e = absurd (no_file here e)
opened_at f (Some (id, inode)) here e = by (pfs_with_id id f.pfss) refl e
  where
    some_here : (found : ℕ × Pfs) → Some (found.0, (found.1, inode)) ≡ Some here → (found.0, (found.1, inode)) ≡ here
    some_here found e = cc

    by : (o : Option (ℕ × Pfs)) → pfs_with_id id f.pfss ≡ o
        → elim o [ Some found ↦ Some (found.0, (found.1, inode)) | None ↦ None ] ≡ Some here
        → slice_index_or f.pfss here.0 here.1.0 ≡ here.1.0
    by None is e = absurd (no_file here e)
    by (Some found) is e = subst (λ (h : ℕ × (Pfs × ℕ)). slice_index_or f.pfss h.0 h.1.0 ≡ h.1.0) (some_here found e) (at_found (λ p. nat_eq p.id id) f.pfss found is)

-- The values of a finite map

module _ {K X : Type 0} (R : K → K → Ordering) (test : X → Bool) where
  no_value : (v : X) → None ≡ Some v → ⊥
  no_value v e = cc

  same_value : (u v : X) → Some u ≡ Some v → u ≡ v
  same_value u v e = cc

  -- a value that is found and passes the test is counted
  pub found_counted : (k : K) (es : List (K × X)) (v : X) → find R k es ≡ Some v → test v ≡ true
      → count_by test (map (λ e. e.1) es) ≢ 0
  found_counted k [] v e is none = absurd (no_value v e)
  found_counted k (e ∷ es) v at is none = by (eq_by_cmp R k e.0) at (found_counted k es v)
    where
      all : cond (test e.1) 1 0 + count_by test (map (λ e. e.1) es) ≡ 0
      all = sym (sum_by-cons (λ x. cond (test x) 1 0) e.1 (map (λ e. e.1) es)) ∙ none

      by : (b : Bool) → cond b (Some e.1) (find R k es) ≡ Some v
          → (find R k es ≡ Some v → test v ≡ true → count_by test (map (λ e. e.1) es) ≢ 0) → ⊥
      by true at later =
          let passed : test e.1 ≡ true = ap test (same_value e.1 v at) ∙ is in
          let more : 1 + count_by test (map (λ e. e.1) es) ≡ 0 = sym (ap (λ b. cond b 1 0 + count_by test (map (λ e. e.1) es)) passed) ∙ all in
          omega arith
      by false at later =
          let sum : cond (test e.1) 1 0 + count_by test (map (λ e. e.1) es) ≡ 0 = all in
          later at is (omega arith)

  -- and makes the list pass it
  pub found_passes : (k : K) (es : List (K × X)) (v : X) → find R k es ≡ Some v → test v ≡ true
      → list_any test (map (λ e. e.1) es) ≡ true
  found_passes k [] v e is = absurd (no_value v e)
  found_passes k (e ∷ es) v at is = by (eq_by_cmp R k e.0) at (found_passes k es v)
    where
      or_later : (a b : Bool) → b ≡ true → (a || b) ≡ true
      or_later true b e = refl
      or_later false b e = e

      by : (b : Bool) → cond b (Some e.1) (find R k es) ≡ Some v
          → (find R k es ≡ Some v → test v ≡ true → list_any test (map (λ e. e.1) es) ≡ true)
          → (test e.1 || list_any test (map (λ e. e.1) es)) ≡ true
      by true at later = ap (λ b. b || list_any test (map (λ e. e.1) es)) (ap test (same_value e.1 v at) ∙ is)
      by false at later = or_later (test e.1) (list_any test (map (λ e. e.1) es)) (later at is)

  module _ (o : IsTotalOrder R) (exact : IsAntisymmetric R) where
    -- a list that passes the test has a key whose value does
    pub passes_found : (es : List (K × X)) → T (is_sorted R es) → list_any test (map (λ e. e.1) es) ≡ true
        → (k : K) × ((v : X) × ((find R k es ≡ Some v) × (test v ≡ true)))
    passes_found [] h any = absurd (not_false any)
      where
        not_false : false ≡ true → ⊥
        not_false e = cc
    passes_found (e ∷ es) h any = by (test e.1) refl any (passes_found es (both_parts (below_all R e.0 es) (is_sorted R es) h).1)
      where
        later_key : (k : K) (v : X) → find R k es ≡ Some v → find R k (e ∷ es) ≡ Some v
        later_key k v at =
            found_later R o exact e es k (λ s. no_value v (sym (later_none R o exact e es k h s) ∙ at)) ∙ at

        by : (b : Bool) → test e.1 ≡ b → (b || list_any test (map (λ e. e.1) es)) ≡ true
            → (list_any test (map (λ e. e.1) es) ≡ true → (k : K) × ((v : X) × ((find R k es ≡ Some v) × (test v ≡ true))))
            → (k : K) × ((v : X) × ((find R k (e ∷ es) ≡ Some v) × (test v ≡ true)))
        by true is any later = (e.0, (e.1, (found_first R o exact e es e.0 refl, is)))
        by false is any later = let rest = later any in (rest.0, (rest.1.0, (later_key rest.0 rest.1.0 rest.1.1.0, rest.1.1.1)))
