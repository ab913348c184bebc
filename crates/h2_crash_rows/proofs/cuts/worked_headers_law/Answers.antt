use Rattle.std.proofs.Common.{◌≡◌, ◌≤◌, ◌<◌, ℕ, [], ◌∷◌, arith, inl, inr, refl}
use Rattle.h2_num.specs.Places.{InRange, places}
use Rattle.h2_disk.specs.Trace.{Appeared}
use Rattle.h2_crash_rows.specs.Cuts.{two_bytes}
use Rattle.h2_crash_rows.proofs.cuts.worked_headers_law.Goals as goal

in_first : InRange 0 2 0
in_first = let low : 0 ≤ 0 = omega arith in let high : 0 < 2 = omega arith in (low, high)

alone_in_first : InRange 0 1 0
alone_in_first = let low : 0 ≤ 0 = omega arith in let high : 0 < 1 = omega arith in (low, high)

zero_not_six : ◌≡◌ {A = ℕ} 0 6 → ⊥
zero_not_six e = absurd (omega arith)

five_not_zero : ◌≡◌ {A = ℕ} 5 0 → ⊥
five_not_zero e = absurd (omega arith)

one_not_two : ◌≡◌ {A = ℕ} 1 2 → ⊥
one_not_two e = absurd (omega arith)

not_torn : Appeared 0 2 two_bytes (places (5 ∷ [])) → ⊥
not_torn (inl m) = let high : 1 < 2 = omega arith in zero_not_six (m.whole refl refl 1 high)
not_torn (inr same) = let high : 0 < 2 = omega arith in five_not_zero (same 0 high)

not_beside : Appeared 2 2 two_bytes (places (5 ∷ 6 ∷ [])) → ⊥
not_beside (inl m) = absurd (let low : 2 ≤ m.byte = m.met.0 in let high : m.byte < 2 = m.wrote.1 in omega arith)
not_beside (inr same) = let high : 0 < 2 = omega arith in five_not_zero (same 0 high)

pub returns : goal.returns
returns c = record {
  whole = inl (record { byte = 0; met = in_first; wrote = in_first; whole = λ e l k lt. refl });
  old = inr (λ k lt. refl);
  torn = not_torn;
  part = inl (record { byte = 0; met = in_first; wrote = alone_in_first; whole = λ e l. absurd (one_not_two l) });
  beside = not_beside;
}
