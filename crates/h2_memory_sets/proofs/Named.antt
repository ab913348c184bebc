-- Which leaf names the root of an inode.
use Rattle.std.proofs.Common.{◌≡◌, ℕ, ◌<◌, true, false, ◌||◌, arith, refl, sym, ◌∙◌, ap, List, Option, Some, None, ◌⊎◌, inl, inr, slice_get, nat_eq}
use Rattle.std.proofs.lemmas.Bool.{or_cases}
use Rattle.std.proofs.lemmas.Bool.Decides.{nat_tests}
use Rattle.h2_ref.specs.declared.faults.Why.{Why}
use Rattle.h2_set.specs.Forest.{Forest, IsSound, IsRootOf}
use Rattle.h2_memory_sets.specs.declared.node.Node.{Node}
use Rattle.h2_memory_sets.specs.declared.node.Owner.{Owner}
use Rattle.h2_memory_sets.specs.Owners.{owner_of, is_owner, belongs_to}
use Rattle.h2_memory_sets.specs.View.{forest_with}
use Rattle.h2_memory_sets.proofs.Owned.{AreLower, belongs_step, belongs_none, belongs_lower, owner_is, or_first, or_second}

pub self_owner : (t k : ℕ) → is_owner t k (record { root = t; key = k }) ≡ true
self_owner t k = let a : nat_eq t t ≡ true = grind (arith, nat_tests) in let b : nat_eq k k ≡ true = grind (arith, nat_tests) in rw (a, b) refl

module _ (xs : List Node) (spare epoch room failed bad : ℕ) (met : Option (ℕ × Why)) (low : AreLower xs) where
  abbrev f : Forest
  f = forest_with xs spare epoch room failed bad met

  -- a root that the leaf names belongs to the leaf, to what that belongs to, and to nothing else
  pub named_by : (top key c : ℕ) → owner_of (slice_get xs c) ≡ Some (record { root = top; key = key }) → f.stands c ≡ true → f.root c ≡ c → f.root top ≡ top → IsRootOf f top key c
  named_by top key c owner st own top_own = record {
    stands = st;
    root = own;
    belongs = λ t k.
        let here : f.belongs c t k ≡ belongs_to xs c t k = ap (λ q. belongs_to xs q t k) own in
        let there : f.belongs top t k ≡ belongs_to xs top t k = ap (λ q. belongs_to xs q t k) top_own in
        let step = belongs_step xs low c t k (record { root = top; key = key }) owner in (
          (λ e. elim (or_cases (is_owner t k (record { root = top; key = key })) (belongs_to xs top t k) (sym step ∙ sym here ∙ e)) as (λ _. ((t ≡ top) × (k ≡ key)) ⊎ (f.belongs top t k ≡ true)) [
            | inl is ↦ let o = owner_is t k (record { root = top; key = key }) is in inl (sym o.0, sym o.1)
            | inr above ↦ inr (there ∙ above)
          ]),
          (λ e. here ∙ step ∙ back t k e there),
        );
  }
    where
      back : (t k : ℕ) → ((t ≡ top) × (k ≡ key)) ⊎ (f.belongs top t k ≡ true) → f.belongs top t k ≡ belongs_to xs top t k → (is_owner t k (record { root = top; key = key }) || belongs_to xs top t k) ≡ true
      back t k (inl is) there = or_first (is_owner t k (record { root = top; key = key })) _ (rw (is.0, is.1) (self_owner top key))
      back t k (inr b) there = or_second (is_owner t k (record { root = top; key = key })) _ (sym there ∙ b)

  -- a root that the leaf names has it as its owner
  pub owner_named : IsSound f → (top key c : ℕ) → IsRootOf f top key c → owner_of (slice_get xs c) ≡ Some (record { root = top; key = key })
  owner_named sound top key c is = go (owner_of (slice_get xs c)) refl
    where
      belongs : belongs_to xs c top key ≡ true
      belongs = sym (ap (λ q. belongs_to xs q top key) is.root) ∙ (is.belongs top key).1 (inl (refl, refl))

      top_own : f.root top ≡ top
      top_own = (sound.owner c top key is.stands ((is.belongs top key).1 (inl (refl, refl)))).root

      go : (o : Option Owner) → owner_of (slice_get xs c) ≡ o → owner_of (slice_get xs c) ≡ Some (record { root = top; key = key })
      go None e = let clash : true ≡ false = sym belongs ∙ belongs_none xs c top key e in absurd (cc)
      go (Some o) e = e ∙ elim (or_cases (is_owner top key o) (belongs_to xs o.root top key) (sym (belongs_step xs low c top key o e) ∙ belongs)) as (λ _. ◌≡◌ {A = Option Owner} (Some o) (Some (record { root = top; key = key }))) [
        | inl here ↦ let same = owner_is top key o here in ap (λ n. Some (record { root = n; key = o.key })) same.0 ∙ ap (λ n. Some (record { root = top; key = n })) same.1
        | inr above ↦
            let less : top < o.root = belongs_lower xs low o.root top key above in
            let mine : f.belongs c o.root o.key ≡ true = ap (λ q. belongs_to xs q o.root o.key) is.root ∙ belongs_step xs low c o.root o.key o e ∙ or_first (is_owner o.root o.key o) _ (self_owner o.root o.key) in
            elim ((is.belongs o.root o.key).0 mine) as (λ _. ◌≡◌ {A = Option Owner} (Some o) (Some (record { root = top; key = key }))) [
              | inl same ↦ let e0 = same.0 in absurd (omega (arith, e0, less))
              | inr b ↦
                  let more : o.root < top = belongs_lower xs low top o.root o.key (sym (ap (λ q. belongs_to xs q o.root o.key) top_own) ∙ b) in
                  absurd (omega (arith, less, more))
            ]
      ]
