use Rattle.std.proofs.Common.{◌≡◌, ◌⊎◌, ◌<◌, ◌≤◌, ◌/◌, ◌+◌, ℕ, zero, suc, false, [], ◌∷◌, slice_get, arith, ap, sym, ◌∙◌, inl, inr, true≢false, refl, get_or}
use Rattle.std.specs.Prelude.{Some, slice_index}
use Rattle.std.proofs.lemmas.Bool.{cases_lt}
use Rattle.h2_num.specs.Places.{places}
use Rattle.h2_ref.specs.declared.reference.Ref.{Ref}
use Rattle.h2_set.specs.Ranges.{holds, NoneHolds}
use Rattle.h2_write_rows.specs.Writes.{block_at}
use Rattle.h2_write_rows.proofs.Keys.{no_ref, in_first, past, holds_same}
use Rattle.h2_write_rows.proofs.links.worked_holes_law.Goals as goal

covered : (k : ℕ) → NoneHolds k (block_at 0 ∷ []) → ◌≡◌ {A = ℕ} (get_or (1 ∷ 2 ∷ []) k 0) 0
covered k none = split (cases_lt k 16384)
  where
    split : (k < 16384) ⊎ (16384 ≤ k) → ◌≡◌ {A = ℕ} (get_or (1 ∷ 2 ∷ []) k 0) 0
    split (inl lt) = absurd (true≢false (sym (in_first k lt) ∙ none 0 (block_at 0) refl))
    split (inr le) = past (1 ∷ 2 ∷ []) k (let f : 2 ≤ k = omega arith in f)

not_there : (i : ℕ) (r : Ref) → slice_get (block_at 32768 ∷ []) i ≡ Some r → holds 0 r ≡ false
not_there zero r e = holds_same 0 (block_at 32768) r e
not_there (suc i) r e = no_ref (holds 0 r ≡ false) r e

one : ◌≡◌ {A = ℕ} 1 0 → ⊥
one e = absurd (omega arith)

behind : (k : ℕ) → k / 16384 ≡ 1 → 1 ≤ k
behind k e = omega arith

pub returns : goal.returns
returns c = record {
  covers = covered;
  not_lost = λ all. one (all 0 not_there);
  found = (record { kind_is = refl; keybits_are = refl; aligned = refl; below_size = omega arith; block = places (1 ∷ []); read = refl; bytes_are = λ k lt. let at : k ≡ 0 + k = omega arith in ap (slice_index (1 ∷ [])) at }, refl);
  hole = λ blocks k e. past (1 ∷ []) k (behind k e);
  not_hole = λ blocks hole. one (hole 0 refl);
}
