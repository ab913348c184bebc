-- Nothing is lost where no reference is missing.
use Rattle.std.proofs.Common.{◌≡◌, ℕ, Bool, true, false, ◌&&◌, ◌||◌, refl, cond, sym, ◌∙◌, ap, List, [], ◌∷◌, Option, Some, None, slice_get, suc, zero, nat_eq, nat_lt}
use Rattle.std.specs.Prelude.{map}
use Rattle.h2_ref.specs.declared.reference.Ref.{Ref}
use Rattle.h2_set.specs.Ranges.{holds}
use Rattle.h2_memory_sets.specs.declared.node.Node.{Node}
use Rattle.h2_memory_sets.specs.declared.node.Owner.{Owner}
use Rattle.h2_memory_sets.specs.Owners.{owner_of, either, on_chain}
use Rattle.h2_memory_sets.specs.View.{lacks, loses, goes, is_lost, goes_with, lost, dropped, dropped_all}
use Rattle.h2_memory_sets.proofs.Passing.{any_none}

last_fails : (a b : Bool) → b ≡ false → (a && b) ≡ false
last_fails true b e = e
last_fails false b e = refl

-- a test that no owner passes
either_none : (p : Owner → Bool) (up : ℕ → Bool) → ((o : Owner) → p o ≡ false) → ((t : ℕ) → up t ≡ false) → (o : Option Owner) → either p up o ≡ false
either_none p up none above None = refl
either_none p up none above (Some o) = ap (λ b. b || up o.root) (none o) ∙ above o.root

chain_none : (p : Owner → Bool) → ((o : Owner) → p o ≡ false) → (xs : List Node) (n m : ℕ) → on_chain p xs n m ≡ false
chain_none p none xs zero m = refl
chain_none p none xs (suc n) m = either_none p (λ t. on_chain p xs n t) none (λ t. chain_none p none xs n t) (owner_of (slice_get xs m))

module _ (root bits : ℕ) (old new : List Ref) (all : (i : ℕ) (q : Ref) → slice_get old i ≡ Some q → lacks new q ≡ false) where
  none_lost : (key : ℕ) → loses old new key ≡ false
  none_lost key = any_none (λ q. holds key q && lacks new q) old (λ i q read. last_fails (holds key q) (lacks new q) (all i q read))

  none_goes : (x : Node) → goes root bits old new x ≡ false
  none_goes x = last_fails (nat_eq x.root root) _ (last_fails (nat_lt x.bits bits) _ (none_lost x.low))

  none_with : (xs : List Node) (m : ℕ) → goes_with xs root old new m ≡ false
  none_with xs m = chain_none (is_lost root old new) (λ o. last_fails (nat_eq o.root root) _ (none_lost o.key)) xs (suc m) m

  one_stays : (xs : List Node) (x : Node) → dropped xs root bits old new x ≡ x
  one_stays xs x = ap (λ b. cond (b || goes_with xs root old new x.root) (lost x) x) (none_goes x) ∙ ap (λ b. cond b (lost x) x) (none_with xs x.root)

  pub none_dropped : (xs : List Node) → xs ≡ dropped_all root bits old new xs
  none_dropped xs = go xs
    where
      go : (ys : List Node) → ys ≡ map (dropped xs root bits old new) ys
      go [] = refl
      go (y ∷ ys) = ap (λ (l : List Node). y ∷ l) (go ys) ∙ ap (λ (z : Node). z ∷ map (dropped xs root bits old new) ys) (sym (one_stays xs y))
