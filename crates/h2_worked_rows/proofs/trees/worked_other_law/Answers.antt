use Rattle.std.proofs.Common.{◌≡◌, ℕ, refl, sym, arith, true≢false}
use Rattle.h2_worked_rows.proofs.Roots.{none_sixth}
use Rattle.h2_worked_rows.proofs.trees.worked_other_law.Goals as goal

one_not_zero : ◌≡◌ {A = ℕ} 1 0 → ⊥
one_not_zero e = absurd (omega (arith, e))

pub returns : goal.returns
returns c = record {
  other = record { stands = refl; root = refl; other = one_not_zero; stays = none_sixth 1 };
  not_fifth = λ h. h.stays refl;
  not_itself = λ h. h.other refl;
  not_there = λ h. true≢false (sym h.stands);
}
