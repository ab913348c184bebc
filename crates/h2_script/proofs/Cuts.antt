-- A word is cut at its first colon in one way.
use Rattle.std.proofs.Common.{◌≡◌, ◌≢◌, ◌<◌, ◌∙◌, ℕ, suc, true, false, eqb, List, [], ◌∷◌, ◌++◌, length, take, get_or, All, Bor, Option, Some, None, MatchOption, refl, sym, ap, subst, arith, lit<}
use Rattle.std.specs.List.{before_first, after_first, position_or_len}
use Rattle.std.proofs.lemmas.Str.Pattern.{IsSplitOnceResult, split_once_first}
use Rattle.std.proofs.lemmas.List.Sums.{split_at_first, fails_before_first, passes_at_first}
use Rattle.std.proofs.lemmas.List.{get_or-take, length-take}
use Rattle.std.proofs.lemmas.Bool.Decides.{nat_tests}
use Rattle.h2_script.specs.Cuts.{IsCut, HasNoColon}

first_of_all : {X : Type 0} (P : X → Type 0) (x : X) (xs : List X) → All P (x ∷ xs) → P x
first_of_all P x xs all = all 0 x (omega arith)

rest_of_all : {X : Type 0} (P : X → Type 0) (x : X) (xs : List X) → All P (x ∷ xs) → All P xs
rest_of_all P x xs all k d lt = all (suc k) d (omega arith)

-- a text with a colon has one
pub no_cut : (text before after : List ℕ) → HasNoColon text → text ≡ before ++ 58 ∷ after → ⊥
no_cut [] [] after none e = cc
no_cut [] (b ∷ before) after none e = cc
no_cut (c ∷ text) [] after none e = first_of_all (λ x. x ≢ 58) c text none cc
no_cut (c ∷ text) (b ∷ before) after none e = no_cut text before after (rest_of_all (λ x. x ≢ 58) c text none) cc

pub one_cut : (a b c d : List ℕ) → HasNoColon a → HasNoColon c → a ++ 58 ∷ b ≡ c ++ 58 ∷ d → (a ≡ c) × (b ≡ d)
one_cut [] b [] d na nc e = (refl, cc)
one_cut [] b (y ∷ c) d na nc e = absurd (first_of_all (λ x. x ≢ 58) y c nc cc)
one_cut (x ∷ a) b [] d na nc e = absurd (first_of_all (λ x. x ≢ 58) x a na cc)
one_cut (x ∷ a) b (y ∷ c) d na nc e =
    let heads : x ≡ y = cc in
    let rest = one_cut a b c d (rest_of_all (λ x. x ≢ 58) x a na) (rest_of_all (λ x. x ≢ 58) y c nc) cc in
    (cc, rest.1)

differ : (b : ℕ) → eqb b 58 ≡ false → b ≢ 58
differ b h = grind (arith, nat_tests)

same : (b : ℕ) → eqb b 58 ≡ true → b ≡ 58
same b h = grind (arith, nat_tests)

none_before : (word : List ℕ) → HasNoColon (before_first (λ b. eqb b 58) word)
none_before word k d lt =
    let long : k < length (take (position_or_len (λ b. eqb b 58) word) word) = lt in
    let at : k < position_or_len (λ b. eqb b 58) word = omega (arith, length-take (position_or_len (λ b. eqb b 58) word) word) in
    subst (λ v. v ≢ 58) (sym (get_or-take (position_or_len (λ b. eqb b 58) word) word k d at)) (differ _ (fails_before_first (λ b. eqb b 58) word k d at))

found : (word before after : List ℕ) → position_or_len (λ b. eqb b 58) word < length word → before ≡ before_first (λ b. eqb b 58) word → after ≡ after_first (λ b. eqb b 58) word → IsCut word before after
found word before after lt is_before is_after = record {
  word_is = split_at_first (λ b. eqb b 58) word 0 lt ∙ ap (λ b. before_first (λ b. eqb b 58) word ++ b ∷ after_first (λ b. eqb b 58) word) (same _ (passes_at_first (λ b. eqb b 58) word 0 lt)) ∙ cc;
  first = subst HasNoColon (sym is_before) (none_before word);
}

-- what the standard split answers
pub cut_or_none : (word : List ℕ) (r : Option (Bor (List ℕ) × Bor (List ℕ))) → IsSplitOnceResult 58 word r → MatchOption r (HasNoColon word) (λ parts. IsCut word parts.0.now parts.1.now)
cut_or_none word r h = cases r (split_once_first 58 word r h (lit< tt))
  where
    cases : (r : Option (Bor (List ℕ) × Bor (List ℕ))) → MatchOption r (position_or_len (λ b. eqb b 58) word ≡ length word) (λ x. (position_or_len (λ b. eqb b 58) word < length word) × (x.0.now ≡ before_first (λ b. eqb b 58) word) × (x.1.now ≡ after_first (λ b. eqb b 58) word)) → MatchOption r (HasNoColon word) (λ parts. IsCut word parts.0.now parts.1.now)
    cases None e = λ k d lt. differ (get_or word k d) (fails_before_first (λ b. eqb b 58) word k d (omega arith))
    cases (Some parts) (lt, is_before, is_after) = found word parts.0.now parts.1.now lt is_before is_after
