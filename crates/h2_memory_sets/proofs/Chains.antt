-- What belongs to what belongs to a leaf belongs to that.
use Rattle.std.proofs.Common.{◌≡◌, ℕ, ◌<◌, true, false, arith, refl, sym, ◌∙◌, ap, List, Option, Some, None, inl, inr, slice_get, suc, zero}
use Rattle.std.proofs.lemmas.Bool.{or_cases, or_right}
use Rattle.h2_memory_sets.specs.declared.node.Node.{Node}
use Rattle.h2_memory_sets.specs.declared.node.Owner.{Owner}
use Rattle.h2_memory_sets.specs.Owners.{owner_of, is_owner, belongs_to}
use Rattle.h2_memory_sets.proofs.Owned.{AreLower, belongs_step, belongs_none, owner_is}

-- as far as is looked
trans_within : (xs : List Node) → AreLower xs → (n q t k t' k' : ℕ) → q < n → belongs_to xs q t k ≡ true → belongs_to xs t t' k' ≡ true → belongs_to xs q t' k' ≡ true
trans_within xs low zero q t k t' k' lt a b = absurd (omega (arith, lt))
trans_within xs low (suc n) q t k t' k' lt a b = go (owner_of (slice_get xs q)) refl (λ (r : ℕ) less above. trans_within xs low n r t k t' k' less above b)
  where
    go : (o : Option Owner) → owner_of (slice_get xs q) ≡ o → ((r : ℕ) → r < n → belongs_to xs r t k ≡ true → belongs_to xs r t' k' ≡ true) → belongs_to xs q t' k' ≡ true
    go None e ih = let clash : true ≡ false = sym a ∙ belongs_none xs q t k e in absurd (cc)
    go (Some o) e ih =
        let less = low q o e in
        let up : belongs_to xs o.root t' k' ≡ true = elim (or_cases (is_owner t k o) (belongs_to xs o.root t k) (sym (belongs_step xs low q t k o e) ∙ a)) as (λ _. belongs_to xs o.root t' k' ≡ true) [
          | inl here ↦ ap (λ z. belongs_to xs z t' k') (owner_is t k o here).0 ∙ b
          | inr above ↦ ih o.root (omega (arith, less, lt)) above
        ] in
        belongs_step xs low q t' k' o e ∙ or_right (is_owner t' k' o) (belongs_to xs o.root t' k') up

pub belongs_trans : (xs : List Node) → AreLower xs → (q t k t' k' : ℕ) → belongs_to xs q t k ≡ true → belongs_to xs t t' k' ≡ true → belongs_to xs q t' k' ≡ true
belongs_trans xs low q t k t' k' a b = trans_within xs low (suc q) q t k t' k' (omega arith) a b
