-- Codes in lists: how many are free, and what one more of a segment makes of them.
use Rattle.std.proofs.Common.{ℕ, zero, suc, ◌≡◌, ◌⊎◌, ◌+◌, ◌<◌, ◌≤◌, List, [], ◌∷◌, length, set, slice_index_or, refl, ap, ◌∙◌, inl, inr, arith, length-set, get_or-set_other, get_or-set_same}
use Rattle.std.proofs.lemmas.Bool.{cases_eq}
use Rattle.h2_num.specs.declared.block.Block.{Block}
use Rattle.h2_codes.specs.declared.code.Code.{Code}
use Rattle.h2_codes.specs.declared.code.Code.TheVariants.{Free, Reserved, Staged, Used}
use Rattle.h2_codes.specs.Codes.{code_at, tally}
use Rattle.h2_codes.specs.Free.{free_below}
use Rattle.h2_plain_ledger.specs.State.{IsCodeAfter, IsApplied}

-- a code in the list is the same whatever stands past its end
pub any_default : (codes : List Code) (i : ℕ) (a b : Code) → i < length codes → slice_index_or codes i a ≡ slice_index_or codes i b
any_default [] i a b lt = absurd (omega arith)
any_default (x ∷ xs) zero a b lt = refl
any_default (x ∷ xs) (suc i) a b lt = any_default xs i a b (omega arith)

pub one_more_free : (codes : List Code) (n free one : ℕ) → n < length codes → free ≡ free_below (code_at codes) n → one ≡ tally Free (slice_index_or codes n Free) → free + one ≡ free_below (code_at codes) (n + 1)
unfolding free_below
one_more_free codes n free one lt e here =
    let code : slice_index_or codes n Free ≡ code_at codes n = any_default codes n Free Reserved lt in
    let same : one ≡ tally Free (code_at codes n) = here ∙ ap (tally Free) code in
    let next : free_below (code_at codes) (suc n) ≡ tally Free (code_at codes n) + free_below (code_at codes) n = refl in
    let step : n + 1 ≡ suc n = omega arith in
    rw step (omega arith)

pub tally_free-le : (code : Code) → tally Free code ≤ 1
tally_free-le code = elim code as (λ z. tally Free z ≤ 1) [ Free ↦ omega arith | Reserved ↦ omega arith | Staged ↦ omega arith | Used ↦ omega arith ]

-- one more chunk of a segment is applied
pub applied_more : (marked : List Block) (first k : ℕ) (old codes : List Code) (code : Code) → first + k < length codes → IsApplied marked first k old codes
    → IsCodeAfter marked (first + k) (slice_index_or codes (first + k) Free) code → IsApplied marked first (k + 1) old (set codes (first + k) code)
applied_more marked first k old codes code lt done here = record {
  length_stays = length-set codes (first + k) code ∙ done.length_stays;
  applied = λ i below. split i below (cases_eq i k);
  lower = λ c below. get_or-set_other codes (first + k) c code Reserved (λ e. omega arith) ∙ done.lower c below;
  upper = λ c above. get_or-set_other codes (first + k) c code Reserved (λ e. omega arith) ∙ done.upper c (omega arith);
}
  where
    was : slice_index_or codes (first + k) Free ≡ code_at old (first + k)
    was = any_default codes (first + k) Free Reserved lt ∙ done.upper (first + k) (omega arith)

    now : code_at (set codes (first + k) code) (first + k) ≡ code
    now = get_or-set_same codes (first + k) code Reserved lt

    split : (i : ℕ) → i < k + 1 → (i ≡ k) ⊎ (i ≡ k → ⊥) → IsCodeAfter marked (first + i) (code_at old (first + i)) (code_at (set codes (first + k) code) (first + i))
    split i below (inl same) = rw (same, now) (rw was at here)
    split i below (inr ne) = rw (get_or-set_other codes (first + k) (first + i) code Reserved (λ e. ne (omega arith))) (done.applied i (omega arith))
