-- A part of the bytes of a write that is put at the start of a block.
use Rattle.std.specs.Prelude.{◌≡◌, ℕ, ◌+◌, ◌-◌, ◌<◌, ◌≤◌, min, List, length, take, drop, slice_index}
use Rattle.std.proofs.Common.{arith, ap, ◌∙◌, inl, inr, subst, length-take, length-drop}
use Rattle.std.proofs.lemmas.Bool.{cases_lt}
use Rattle.std.proofs.lemmas.Bool.Decides.{nat_tests}
use Rattle.std.proofs.lemmas.List.{get_or-take, get_or-drop}
use Rattle.h2_num.specs.Places.{Lays, places}
use Rattle.h2_contents.specs.Windows.{laid}

within : (bytes : List ℕ) (at x y : ℕ) → at < length bytes → x ≡ slice_index bytes (at - 0) → x ≡ laid 0 bytes at y
within bytes at x y lt e = e ∙ grind (arith, nat_tests)

past : (bytes : List ℕ) (at y : ℕ) → length bytes ≤ at → y ≡ laid 0 bytes at y
past bytes at y ge = grind (arith, nat_tests)

module _ (bytes old new : List ℕ) (from n m : ℕ) where
  part_length : m ≡ n → from < length bytes → n ≡ min (length bytes - from) (length old) → length (take m (drop from bytes)) ≡ n
  part_length e lt size = length-take m (drop from bytes) ∙ ap (λ l. min m l) (length-drop from bytes) ∙ omega arith

  pub part_laid : m ≡ n → from < length bytes → n ≡ min (length bytes - from) (length old) → length new ≡ length old
      → Lays 0 (take m (drop from bytes)) (places old) (places new)
      → (k : ℕ) → k < length new → slice_index new k ≡ laid 0 bytes (from + k) (slice_index old k)
  part_laid e lt size same lays k in_new =
      let long : length (take m (drop from bytes)) ≡ n = part_length e lt size in
      elim (cases_lt k n) [
        | inl below ↦
            let here : k < length (take m (drop from bytes)) = omega arith in
            let zero_on : 0 + k ≡ k = omega arith in
            within bytes (from + k) (slice_index new k) (slice_index old k) (omega arith)
            (subst (λ j. slice_index new j ≡ slice_index (take m (drop from bytes)) k) zero_on (lays.inside k here)
            ∙ get_or-take m (drop from bytes) k 0 (omega arith)
            ∙ get_or-drop from bytes k 0
            ∙ ap (λ j. slice_index bytes j) (omega arith))
        | inr above ↦
            lays.others.after k (omega arith) ∙ past bytes (from + k) (slice_index old k) (omega arith)
      ]
