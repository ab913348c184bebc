use Rattle.std.proofs.Common.{◌≡◌, ◌⊎◌, ◌<◌, ◌≤◌, ◌+◌, ℕ, zero, suc, false, [], ◌∷◌, slice_get, arith, ap, sym, ◌∙◌, inl, inr, true≢false, refl, get_or}
use Rattle.std.specs.Prelude.{Some}
use Rattle.std.proofs.lemmas.Bool.{cases_lt}
use Rattle.h2_num.specs.Places.{Places, places}
use Rattle.h2_ref.specs.declared.reference.Ref.{Ref}
use Rattle.h2_set.specs.Ranges.{holds, NoneHolds}
use Rattle.h2_write_rows.specs.Writes.{block_at, one_block}
use Rattle.h2_write_rows.proofs.Keys.{key_is, no_ref, in_first, past, same_bytes, from_key}
use Rattle.h2_write_rows.proofs.links.worked_linked_law.Goals as goal

below : (i : ℕ) (r : Ref) → slice_get (block_at 0 ∷ []) i ≡ Some r → r.key < 3
below zero r e = let f : r.key ≡ 0 = key_is 0 r e in omega arith
below (suc i) r e = no_ref (r.key < 3) r e

same_here : (k : ℕ) → ◌≡◌ {A = ℕ} (get_or (9 ∷ []) k 0) (get_or (9 ∷ 0 ∷ 0 ∷ []) k 0)
same_here zero = refl
same_here (suc zero) = refl
same_here (suc (suc zero)) = refl
same_here (suc (suc (suc k))) = refl

put : (i : ℕ) (r : Ref) → slice_get (block_at 0 ∷ []) i ≡ Some r
    → (block : Places) × (one_block (9 ∷ []) r ≡ Some block) × ((k : ℕ) → k < 16384 → block k ≡ get_or (9 ∷ 0 ∷ 0 ∷ []) (r.key + k) 0)
put zero r e = (places (9 ∷ []), refl, λ k lt. same_here k ∙ ap (λ (z : ℕ). get_or (9 ∷ 0 ∷ 0 ∷ []) z 0) (sym (from_key r.key k (key_is 0 r e))))
put (suc i) r e = no_ref ((block : Places) × (one_block (9 ∷ []) r ≡ Some block) × ((k : ℕ) → k < 16384 → block k ≡ get_or (9 ∷ 0 ∷ 0 ∷ []) (r.key + k) 0)) r e

same : (k : ℕ) → NoneHolds k (block_at 0 ∷ []) → ◌≡◌ {A = ℕ} (get_or (9 ∷ 0 ∷ 0 ∷ []) k 0) (get_or (1 ∷ 2 ∷ []) k 0)
same k none = split (cases_lt k 16384)
  where
    split : (k < 16384) ⊎ (16384 ≤ k) → ◌≡◌ {A = ℕ} (get_or (9 ∷ 0 ∷ 0 ∷ []) k 0) (get_or (1 ∷ 2 ∷ []) k 0)
    split (inl lt) = absurd (true≢false (sym (in_first k lt) ∙ none 0 (block_at 0) refl))
    split (inr le) = past (9 ∷ 0 ∷ 0 ∷ []) k (let f : 3 ≤ k = omega arith in f) ∙ sym (past (1 ∷ 2 ∷ []) k (let f : 2 ≤ k = omega arith in f))

pub returns : goal.returns
returns c = record {
  links = record { sized = refl; grows = omega arith; below = below; put = put; same = same };
  not_shorter = λ l. absurd (let le : 2 ≤ 1 = l.grows in omega arith);
  not_past_end = λ l. absurd (let lt : 16384 < 3 = l.below 0 (block_at 16384) refl in omega arith);
  not_kept = λ l.
      let found : (block : Places) × (Some (places (9 ∷ [])) ≡ Some block) × ((k : ℕ) → k < 16384 → block k ≡ get_or (9 ∷ 2 ∷ 0 ∷ []) (0 + k) 0) = l.put 0 (block_at 0) refl in
      unlike (same_bytes (places (9 ∷ [])) found.0 found.1 1 ∙ found.2 1 (omega arith));
  not_elsewhere = λ l. changed (l.same 1 (λ i r e. no_ref (holds 1 r ≡ false) r e));
}
  where
    unlike : ◌≡◌ {A = ℕ} 0 2 → ⊥
    unlike e = absurd (omega arith)

    changed : ◌≡◌ {A = ℕ} 3 2 → ⊥
    changed e = absurd (omega arith)
