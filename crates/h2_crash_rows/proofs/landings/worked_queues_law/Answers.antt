use Rattle.std.proofs.Common.{◌≤◌, ◌<◌, ℕ, [], ◌∷◌, length, arith, subst, inl, inr, refl}
use Rattle.h2_num.specs.Places.{InRange}
use Rattle.h2_checkpoint.specs.Queue.{Entry, InEntries}
use Rattle.h2_crash_rows.specs.Landings.{two_at}
use Rattle.h2_crash_rows.proofs.landings.worked_queues_law.Goals as goal

off_four : (k : ℕ) → InRange 2 2 k → InRange 4 2 k → ⊥
off_four k first second = absurd (let high : k < 4 = first.1 in let low : 4 ≤ k = second.0 in omega arith)

apart : (k : ℕ) → InRange 2 2 k → InEntries (two_at 4 ∷ []) k → ⊥
apart k first (e, inl is, second) = off_four k first (subst (λ (x : Entry). InRange x.at (length x.bytes) k) is second)
apart k first (e, inr none, second) = none

three_in_two : InRange 2 2 3
three_in_two = let low : 2 ≤ 3 = omega arith in let high : 3 < 4 = omega arith in (low, high)

three_in_three : InRange 3 2 3
three_in_three = let low : 3 ≤ 3 = omega arith in let high : 3 < 5 = omega arith in (low, high)

five_in_four : InRange 4 2 5
five_in_four = let low : 4 ≤ 5 = omega arith in let high : 5 < 6 = omega arith in (low, high)

five_in_five : InRange 5 2 5
five_in_five = let low : 5 ≤ 5 = omega arith in let high : 5 < 7 = omega arith in (low, high)

pub returns : goal.returns
returns c = record {
  apart = (apart, (λ k within none. none.1, tt));
  not_apart = λ a. a.0 3 three_in_two (two_at 3, inl refl, three_in_three);
  not_third = λ a. a.1.0 5 five_in_four (two_at 5, inl refl, five_in_five);
  none = tt;
  left = refl;
  synced = refl;
  sent = refl;
}
