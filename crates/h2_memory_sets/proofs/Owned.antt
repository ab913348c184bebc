-- Which leaves a root belongs to, by the owners of nodes.
use Rattle.std.proofs.Common.{◌≡◌, ℕ, ◌<◌, Bool, true, false, ◌||◌, arith, refl, cond, ◌∙◌, ap, List, [], ◌∷◌, ◌++◌, take, drop, Option, Some, None, inl, inr, slice_get, suc, zero, nat_eq}
use Rattle.std.specs.Prelude.{map}
use Rattle.std.proofs.lemmas.Bool.{or_cases}
use Rattle.std.proofs.lemmas.Bool.Decides.{nat_tests}
use Rattle.h2_ref.specs.declared.reference.Ref.{Ref}
use Rattle.h2_memory_sets.specs.declared.node.Node.{Node}
use Rattle.h2_memory_sets.specs.declared.node.Owner.{Owner}
use Rattle.h2_memory_sets.specs.Owners.{owner_of, either, on_chain, is_owner, belongs_to}
use Rattle.h2_memory_sets.specs.Kept.{AreKept}
use Rattle.h2_memory_sets.specs.View.{goes, goes_with, lost, dropped}
use Rattle.h2_memory_sets.proofs.Passing.{and_parts}

-- what is told of the owner's root alone
pub either_same : (p : Owner → Bool) (a b : ℕ → Bool) (o : Option Owner) → ((w : Owner) → o ≡ Some w → a w.root ≡ b w.root) → either p a o ≡ either p b o
either_same p a b None same = refl
either_same p a b (Some w) same = ap (λ z. p w || z) (same w refl)

-- an owner is on the chain of the vector with the same owners too
pub chain_same : (p : Owner → Bool) (xs ys : List Node) → ((m : ℕ) → owner_of (slice_get ys m) ≡ owner_of (slice_get xs m)) → (n m : ℕ) → on_chain p ys n m ≡ on_chain p xs n m
chain_same p xs ys same zero m = refl
chain_same p xs ys same (suc n) m = ap (either p (λ t. on_chain p ys n t)) (same m) ∙ either_same p (λ t. on_chain p ys n t) (λ t. on_chain p xs n t) (owner_of (slice_get xs m)) (λ o e. chain_same p xs ys same n o.root)

pub belongs_same : (xs ys : List Node) → ((m : ℕ) → owner_of (slice_get ys m) ≡ owner_of (slice_get xs m)) → (q t k : ℕ) → belongs_to ys q t k ≡ belongs_to xs q t k
belongs_same xs ys same q t k = chain_same (is_owner t k) xs ys same (suc q) q

-- an owner's root has a lower number than what it owns
abbrev pub AreLower : List Node → Type 0
AreLower xs = (m : ℕ) (o : Owner) → owner_of (slice_get xs m) ≡ Some o → o.root < m

owner_read : (xs : List Node) (m : ℕ) (o : Owner) → owner_of (slice_get xs m) ≡ Some o → (x : Node) × (slice_get xs m ≡ Some x) × (x.owner ≡ Some o)
owner_read xs m o e = go (slice_get xs m) refl e
  where
    go : (n : Option Node) → slice_get xs m ≡ n → owner_of n ≡ Some o → (x : Node) × (slice_get xs m ≡ Some x) × (x.owner ≡ Some o)
    go None read e = absurd (cc)
    go (Some x) read e = (x, read, e)

pub are_lower : (xs : List Node) → AreKept xs → AreLower xs
are_lower xs kept m o e = let it = owner_read xs m o e in (kept.owner m it.0 o it.1 it.2).lower

or_same : (a b c : Bool) → b ≡ c → (a || b) ≡ (a || c)
or_same a b c e = ap (λ z. a || z) e

-- how far is looked matters no more than that it is far enough
pub chain_far : (p : Owner → Bool) (xs : List Node) → AreLower xs → (n k m : ℕ) → m < n → m < k → on_chain p xs n m ≡ on_chain p xs k m
chain_far p xs low zero k m a b = absurd (omega (arith, a))
chain_far p xs low (suc n) zero m a b = absurd (omega (arith, b))
chain_far p xs low (suc n) (suc k) m a b = either_same p (λ t. on_chain p xs n t) (λ t. on_chain p xs k t) (owner_of (slice_get xs m)) (λ o e. let less = low m o e in chain_far p xs low n k o.root (omega (arith, less, a)) (omega (arith, less, b)))

-- a root belongs to its owner, and to what the owner's root belongs to
pub belongs_step : (xs : List Node) → AreLower xs → (c t k : ℕ) (o : Owner) → owner_of (slice_get xs c) ≡ Some o → belongs_to xs c t k ≡ (is_owner t k o || belongs_to xs o.root t k)
belongs_step xs low c t k o e = ap (either (is_owner t k) (λ u. on_chain (is_owner t k) xs c u)) e ∙ or_same (is_owner t k o) _ _ (let less = low c o e in chain_far (is_owner t k) xs low c (suc o.root) o.root less (omega arith))

pub belongs_none : (xs : List Node) (c t k : ℕ) → owner_of (slice_get xs c) ≡ None → belongs_to xs c t k ≡ false
belongs_none xs c t k e = ap (either (is_owner t k) (λ u. on_chain (is_owner t k) xs c u)) e

-- an owner that passes is one of those that are looked at
pub record IsOn (p : Owner → Bool) (xs : List Node) (n m : ℕ) : Type 0 where
  pub owner : Owner
  pub passes : p owner ≡ true
  pub on : (q : Owner → Bool) → q owner ≡ true → on_chain q xs n m ≡ true
  pub lower : AreLower xs → owner.root < m

found_next : (xs : List Node) (n m : ℕ) (o : Owner) → owner_of (slice_get xs m) ≡ Some o → (q : Owner → Bool) (b : Bool) → (q o || on_chain q xs n o.root) ≡ b → on_chain q xs (suc n) m ≡ b
found_next xs n m o e q b h = ap (either q (λ t. on_chain q xs n t)) e ∙ h

pub or_first : (a b : Bool) → a ≡ true → (a || b) ≡ true
or_first true b e = refl
or_first false b e = absurd (cc)

pub or_second : (a b : Bool) → b ≡ true → (a || b) ≡ true
or_second true b e = refl
or_second false b e = e

-- where the first of two fails, the second decides
pub or_last : (a b : Bool) → a ≡ false → b ≡ (a || b)
or_last true b e = absurd (cc)
or_last false b e = refl

found_step : (p : Owner → Bool) (xs : List Node) (n m : ℕ) (o : Option Owner) → owner_of (slice_get xs m) ≡ o → either p (λ t. on_chain p xs n t) o ≡ true → ((w : Owner) → on_chain p xs n w.root ≡ true → IsOn p xs n w.root) → IsOn p xs (suc n) m
found_step p xs n m None e h rest = absurd (cc)
found_step p xs n m (Some o) e h rest = elim (or_cases (p o) (on_chain p xs n o.root) h) as (λ _. IsOn p xs (suc n) m) [
  | inl here ↦ record { owner = o; passes = here; on = λ q is. found_next xs n m o e q true (or_first (q o) _ is); lower = λ low. low m o e }
  | inr above ↦
      let it = rest o above in
      record {
        owner = it.owner;
        passes = it.passes;
        on = λ q is. found_next xs n m o e q true (or_second (q o) _ (it.on q is));
        lower = λ low. let a = it.lower low in let b = low m o e in omega (arith, a, b);
      }
]

pub chain_found : (p : Owner → Bool) (xs : List Node) (n m : ℕ) → on_chain p xs n m ≡ true → IsOn p xs n m
chain_found p xs zero m h = absurd (cc)
chain_found p xs (suc n) m h = found_step p xs n m (owner_of (slice_get xs m)) refl h (λ o is. chain_found p xs n o.root is)

same_number : (a b : ℕ) → nat_eq a b ≡ true → a ≡ b
same_number a b e = grind (arith, nat_tests)

pub owner_is : (t k : ℕ) (o : Owner) → is_owner t k o ≡ true → (o.root ≡ t) × (o.key ≡ k)
owner_is t k o e = let a = and_parts (nat_eq o.root t) _ e in (same_number o.root t a.0, same_number o.key k a.1)

-- what a root belongs to has a lower root
pub belongs_lower : (xs : List Node) → AreLower xs → (q t k : ℕ) → belongs_to xs q t k ≡ true → t < q
belongs_lower xs low q t k h =
    let it = chain_found (is_owner t k) xs (suc q) q h in
    let less = it.lower low in
    let is = owner_is t k it.owner it.passes in
    let same = is.0 in
    omega (arith, less, same)

-- the first nodes of a list may have changed, but for their owners
pub owner_mixed : (h : Node → Node) → ((x : Node) → (h x).owner ≡ x.owner) → (i : ℕ) (zs : List Node) (m : ℕ) → owner_of (slice_get (map h (take i zs) ++ drop i zs) m) ≡ owner_of (slice_get zs m)
owner_mixed h same zero [] m = refl
owner_mixed h same zero (z ∷ zs) m = refl
owner_mixed h same (suc i) [] m = refl
owner_mixed h same (suc i) (z ∷ zs) zero = same z
owner_mixed h same (suc i) (z ∷ zs) (suc m) = owner_mixed h same i zs m

pub chain_mixed : (p : Owner → Bool) (h : Node → Node) → ((x : Node) → (h x).owner ≡ x.owner) → (i : ℕ) (zs : List Node) (n m : ℕ) → on_chain p (map h (take i zs) ++ drop i zs) n m ≡ on_chain p zs n m
chain_mixed p h same i zs n m = chain_same p zs (map h (take i zs) ++ drop i zs) (owner_mixed h same i zs) n m

pub dropped_owner : (xs : List Node) (root bits : ℕ) (old new : List Ref) (x : Node) → (dropped xs root bits old new x).owner ≡ x.owner
dropped_owner xs root bits old new x = go (goes root bits old new x || goes_with xs root old new x.root)
  where
    go : (b : Bool) → (let y : Node = cond b (lost x) x in y.owner) ≡ x.owner
    go true = refl
    go false = refl

-- below a number, where the owners are the same
pub chain_under : (p : Owner → Bool) (xs ys : List Node) (b : ℕ) → AreLower xs → ((m : ℕ) → m < b → owner_of (slice_get ys m) ≡ owner_of (slice_get xs m)) → (n m : ℕ) → m < b → on_chain p ys n m ≡ on_chain p xs n m
chain_under p xs ys b low same zero m lt = refl
chain_under p xs ys b low same (suc n) m lt = ap (either p (λ t. on_chain p ys n t)) (same m lt) ∙ either_same p (λ t. on_chain p ys n t) (λ t. on_chain p xs n t) (owner_of (slice_get xs m)) (λ o e. let less = low m o e in chain_under p xs ys b low same n o.root (omega (arith, less, lt)))
