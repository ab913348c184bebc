use Rattle.std.proofs.Common.{◌≡◌, ◌<◌, ◌+◌, ℕ, [], ◌∷◌, arith, ap, sym, ◌∙◌, refl, get_or}
use Rattle.std.specs.Prelude.{Some}
use Rattle.h2_num.specs.Places.{Places, places}
use Rattle.h2_ref.specs.declared.reference.Ref.{Ref}
use Rattle.h2_write_rows.specs.Writes.{block_at, one_block}
use Rattle.h2_write_rows.proofs.Keys.{key_is, no_ref, no_none, past, same_bytes, from_key}
use Rattle.h2_write_rows.proofs.links.worked_cut_law.Goals as goal

put : (q : Ref) → Some (block_at 0) ≡ Some q → (block : Places) × (one_block (1 ∷ 2 ∷ []) q ≡ Some block) × ((k : ℕ) → k < 16384 → block k ≡ get_or (1 ∷ 2 ∷ []) (q.key + k) 0)
put q e = (places (1 ∷ 2 ∷ []), refl, λ k lt. ap (λ (z : ℕ). get_or (1 ∷ 2 ∷ []) z 0) (sym (from_key q.key k (key_is 0 q e))))

three : ◌≡◌ {A = ℕ} 3 0 → ⊥
three e = absurd (omega arith)

pub returns : goal.returns
returns c = record {
  put = record { put = put; zeros = λ e k low in_cut high. no_none (get_or (1 ∷ 2 ∷ 3 ∷ []) k 0 ≡ 0) (block_at 0) e };
  none = record {
    put = λ q e. no_ref ((block : Places) × (one_block [] q ≡ Some block) × ((k : ℕ) → k < 16384 → block k ≡ get_or (1 ∷ 2 ∷ []) (q.key + k) 0)) q e;
    zeros = λ e k low in_cut high. past (1 ∷ 2 ∷ []) k in_cut;
  };
  not_uncut = λ ends.
      let found : (block : Places) × (Some (places (1 ∷ 2 ∷ 3 ∷ [])) ≡ Some block) × ((k : ℕ) → k < 16384 → block k ≡ get_or (1 ∷ 2 ∷ []) (0 + k) 0) = ends.put (block_at 0) refl in
      three (same_bytes (places (1 ∷ 2 ∷ 3 ∷ [])) found.0 found.1 2 ∙ found.2 2 (omega arith));
  not_lacking = λ ends. three (ends.zeros refl 2 (omega arith) (omega arith) (omega arith));
}
