-- What holds of each PFS of a list, over the ways in which commands change the list.
use Rattle.std.specs.Prelude.{◌≡◌, ℕ, zero, suc, ◌+◌, List, [], ◌∷◌, ◌++◌, take, drop, cond, Bool, true, false, Some, slice_set, slice_index_or, All}
use Rattle.std.proofs.Common.{subst}
use Rattle.std.proofs.lemmas.List.Elements.{All-cons, All-head, All-tail}
use Rattle.h2_forest.specs.declared.pfs.Pfs.{Pfs}
use Rattle.h2_forest.specs.Forest.{first_from}
use Rattle.h2_forest.proofs.Kept.{none_some}

module _ (B : Pfs → Type 0) where
  -- another PFS stands in the place of one
  pub set_each : (ps : List Pfs) (i : ℕ) (p q : Pfs) → slice_index_or ps i p ≡ p → (B p → B q) → All B ps → All B (slice_set ps i q)
  set_each [] i p q at step h = h
  set_each (x ∷ ps) zero p q at step h = All-cons B q ps (step (subst B at (All-head B x ps h))) (All-tail B x ps h)
  set_each (x ∷ ps) (suc i) p q at step h = All-cons B x (slice_set ps i q) (All-head B x ps h) (set_each ps i p q at step (All-tail B x ps h))

  -- a PFS goes
  pub remove_each : (ps : List Pfs) (i : ℕ) → All B ps → All B (take i ps ++ drop (suc i) ps)
  remove_each [] zero h = h
  remove_each [] (suc i) h = h
  remove_each (x ∷ ps) zero h = All-tail B x ps h
  remove_each (x ∷ ps) (suc i) h = All-cons B x (take i ps ++ drop (suc i) ps) (All-head B x ps h) (remove_each ps i (All-tail B x ps h))

  some_same : (x y : ℕ × Pfs) → Some x ≡ Some y → x ≡ y
  some_same x y e = cc

  -- the one that is found is of the list
  pub found_each : (test : Pfs → Bool) (k : ℕ) (ps : List Pfs) (found : ℕ × Pfs) → first_from test k ps ≡ Some found → All B ps → B found.1
  found_each test k [] found e h = absurd (none_some found e)
  found_each test k (x ∷ ps) found e h = by (test x) e (λ later. found_each test (k + 1) ps found later (All-tail B x ps h))
    where
      by : (b : Bool) → cond b (Some (k, x)) (first_from test (k + 1) ps) ≡ Some found → (first_from test (k + 1) ps ≡ Some found → B found.1) → B found.1
      by true e later = subst (λ (w : ℕ × Pfs). B w.1) (some_same (k, x) found e) (All-head B x ps h)
      by false e later = later e
