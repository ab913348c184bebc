-- Members of lists, and of what a test keeps of them.
use Rattle.std.proofs.Common.{◌≡◌, ℕ, zero, suc, ◌∙◌, ◌<◌, sym, arith, refl, ap, Bool, true, false, cond, List, [], ◌∷◌, Some, subst, slice_get, length}
use Rattle.std.specs.Prelude.{Contains, filter}
use Rattle.std.proofs.lemmas.Option.{slice_get-get_or, slice_get_within, get_or_from_slice_get}

pub first : {X : Type 0} (x : X) (xs : List X) → Contains (x ∷ xs) x
first x xs = (0, omega arith, refl)

pub behind : {X : Type 0} (x : X) (xs : List X) (y : X) → Contains xs y → Contains (x ∷ xs) y
behind x xs y h = let lt : h.0 < length xs = h.1 in (suc h.0, omega (arith, lt), h.2)

pub at_place : {X : Type 0} (xs : List X) (i : ℕ) (x : X) → slice_get xs i ≡ Some x → Contains xs x
at_place xs i x read = (i, slice_get_within xs i x read, get_or_from_slice_get xs i x x read)

pub has_place : {X : Type 0} (xs : List X) (x : X) → Contains xs x → (i : ℕ) × (slice_get xs i ≡ Some x)
has_place xs x (i, lt, is) = (i, slice_get-get_or xs i x lt ∙ ap Some is)

kept_step : {X : Type 0} (p : X → Bool) (x : X) (xs : List X) (y : X) (b : Bool) → p x ≡ b → Contains (cond b (x ∷ filter p xs) (filter p xs)) y
    → (Contains (filter p xs) y → Contains xs y × (p y ≡ true)) → Contains (x ∷ xs) y × (p y ≡ true)
kept_step p x xs y true px (zero, lt, is) more = (subst (λ z. Contains (x ∷ xs) z) is (first x xs), subst (λ z. p z ≡ true) is px)
kept_step p x xs y true px (suc k, lt, is) more = let h = more (k, omega (arith, lt), is) in (behind x xs y h.0, h.1)
kept_step p x xs y false px at more = let h = more at in (behind x xs y h.0, h.1)

-- what is kept was there, and passes
pub kept : {X : Type 0} (p : X → Bool) (xs : List X) (y : X) → Contains (filter p xs) y → Contains xs y × (p y ≡ true)
kept p [] y (k, lt, is) = absurd (omega (arith, lt))
kept p (x ∷ xs) y at = kept_step p x xs y (p x) refl at (kept p xs y)

keeps_step : {X : Type 0} (p : X → Bool) (x : X) (xs : List X) (y : X) (b : Bool) → p x ≡ b → p y ≡ true → Contains (x ∷ xs) y
    → (Contains xs y → Contains (filter p xs) y) → Contains (cond b (x ∷ filter p xs) (filter p xs)) y
keeps_step p x xs y true px py (zero, lt, is) more = (0, omega arith, is)
keeps_step p x xs y true px py (suc k, lt, is) more = behind x (filter p xs) y (more (k, omega (arith, lt), is))
keeps_step p x xs y false px py (zero, lt, is) more = let same : p x ≡ true = subst (λ z. p z ≡ true) (sym is) py in cc
keeps_step p x xs y false px py (suc k, lt, is) more = more (k, omega (arith, lt), is)

-- what was there and passes is kept
pub keeps : {X : Type 0} (p : X → Bool) (xs : List X) (y : X) → p y ≡ true → Contains xs y → Contains (filter p xs) y
keeps p [] y py (k, lt, is) = absurd (omega (arith, lt))
keeps p (x ∷ xs) y py at = keeps_step p x xs y (p x) refl py at (keeps p xs y py)
