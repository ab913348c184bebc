use Rattle.std.proofs.Common.{◌≡◌, ◌<◌, ◌≤◌, ◌+◌, ◌*◌, ℕ, zero, suc, true, false, [], ◌∷◌, slice_get, arith, inl, inr, refl}
use Rattle.std.specs.Prelude.{Some}
use Rattle.h2_ref.specs.declared.reference.Ref.{Ref}
use Rattle.h2_file.specs.Writing.{IsPut}
use Rattle.h2_write_rows.specs.Writes.{touched_of, block_at}
use Rattle.h2_write_rows.proofs.Keys.{key_is, no_ref, not_true}
use Rattle.h2_write_rows.proofs.links.worked_references_law.Goals as goal

each_two : (i : ℕ) (r : Ref) → slice_get (block_at 0 ∷ block_at 16384 ∷ []) i ≡ Some r → (b : ℕ) × (r.key ≡ 16384 * b) × IsPut (touched_of 0 2 false) b
each_two zero r e = (0, key_is 0 r e, inl (omega arith, omega arith))
each_two (suc zero) r e = (1, key_is 16384 r e, inl (omega arith, omega arith))
each_two (suc (suc i)) r e = no_ref ((b : ℕ) × (r.key ≡ 16384 * b) × IsPut (touched_of 0 2 false) b) r e

all_two : (b : ℕ) → IsPut (touched_of 0 2 false) b → (i : ℕ) × (r : Ref) × (slice_get (block_at 0 ∷ block_at 16384 ∷ []) i ≡ Some r) × (r.key ≡ 16384 * b)
all_two zero (inl t) = (0, block_at 0, refl, refl)
all_two (suc zero) (inl t) = (1, block_at 16384, refl, refl)
all_two (suc (suc b)) (inl t) = absurd (let high : suc (suc b) < 2 = t.1 in omega arith)
all_two b (inr t) = absurd (not_true t.0)

each_lifted : (i : ℕ) (r : Ref) → slice_get (block_at 0 ∷ block_at 32768 ∷ []) i ≡ Some r → (b : ℕ) × (r.key ≡ 16384 * b) × IsPut (touched_of 2 1 true) b
each_lifted zero r e = (0, key_is 0 r e, inr (refl, refl))
each_lifted (suc zero) r e = (2, key_is 32768 r e, inl (omega arith, omega arith))
each_lifted (suc (suc i)) r e = no_ref ((b : ℕ) × (r.key ≡ 16384 * b) × IsPut (touched_of 2 1 true) b) r e

zero_key : (b : ℕ) → b ≡ 0 → 0 ≡ 16384 * b
zero_key b e = omega arith

third_key : (b : ℕ) → 2 ≤ b → b < 3 → 32768 ≡ 16384 * b
third_key b low high = omega arith

all_lifted : (b : ℕ) → IsPut (touched_of 2 1 true) b → (i : ℕ) × (r : Ref) × (slice_get (block_at 0 ∷ block_at 32768 ∷ []) i ≡ Some r) × (r.key ≡ 16384 * b)
all_lifted b (inl t) = (1, block_at 32768, refl, third_key b t.0 t.1)
all_lifted b (inr t) = (0, block_at 0, refl, zero_key b t.1)

one_only : (i : ℕ) (r : Ref) → slice_get (block_at 0 ∷ []) i ≡ Some r → r.key ≡ 16384 → ⊥
one_only zero r e f = absurd (let g : r.key ≡ 0 = key_is 0 r e in omega arith)
one_only (suc i) r e f = no_ref ⊥ r e

second_put : (b : ℕ) → 16384 ≡ 16384 * b → IsPut (touched_of 0 1 false) b → ⊥
second_put b e (inl t) = absurd (let high : b < 0 + 1 = t.1 in omega arith)
second_put b e (inr t) = not_true t.0

whole_key : (b : ℕ) → 1 ≡ 16384 * b → ⊥
whole_key b e = absurd (omega arith)

pub returns : goal.returns
returns c = record {
  two = record { each = each_two; all = all_two };
  lifted = record { each = each_lifted; all = all_lifted };
  not_lacking = λ a. let found : (i : ℕ) × (r : Ref) × (slice_get (block_at 0 ∷ []) i ≡ Some r) × (r.key ≡ 16384) = a.all 1 (inl (omega arith, omega arith)) in one_only found.0 found.1 found.2 found.3;
  not_more = λ a. let put : (b : ℕ) × (16384 ≡ 16384 * b) × IsPut (touched_of 0 1 false) b = a.each 1 (block_at 16384) refl in second_put put.0 put.1 put.2;
  not_within = λ a. let put : (b : ℕ) × (1 ≡ 16384 * b) × IsPut (touched_of 0 1 false) b = a.each 0 (block_at 1) refl in whole_key put.0 put.1;
}
