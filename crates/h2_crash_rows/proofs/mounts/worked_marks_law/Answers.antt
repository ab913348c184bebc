use Rattle.std.proofs.Common.{◌≡◌, ◌⊎◌, ◌≤◌, ℕ, arith, inl, inr, refl}
use Rattle.h2_checkpoint.specs.Marks.{IsLanding, IsFrozenForest}
use Rattle.h2_crash_rows.specs.Marks.{marks, first_forest}
use Rattle.h2_crash_rows.proofs.mounts.worked_marks_law.Goals as goal

only_first : (n : ℕ) → IsLanding 1 marks 9 n → n ≡ 1
only_first n (inl e) = e
only_first n (inr (e, inl o)) = absurd (let le : 19 ≤ 9 = o.1 in omega arith)
only_first n (inr (e, inr (inl o))) = absurd (let le : 10 ≤ 9 = o.1 in omega arith)
only_first n (inr (e, inr (inr o))) = absurd o

first_or_second : (n : ℕ) → IsLanding 1 marks 10 n → (n ≡ 1) ⊎ (n ≡ 2)
first_or_second n (inl e) = inl e
first_or_second n (inr (e, o)) = inr e

second_or_third : (n : ℕ) → IsLanding 1 marks 20 n → (n ≡ 2) ⊎ (n ≡ 3)
second_or_third n (inl e) = inl e
second_or_third n (inr (e, o)) = inr e

only_second : (n : ℕ) → IsLanding 1 marks 12 n → n ≡ 2
only_second n (inl e) = e
only_second n (inr (e, inl o)) = absurd (let le : 19 ≤ 12 = o.1 in omega arith)
only_second n (inr (e, inr (inl o))) = absurd (let is : 2 ≡ n = o.0 in let next : n ≡ 3 = e in omega arith)
only_second n (inr (e, inr (inr o))) = absurd o

mixed : IsFrozenForest first_forest marks 2 100 → ⊥
mixed (inl (e, f)) = absurd (let is : 2 ≡ 3 = e in omega arith)
mixed (inr (inl (e, f))) = absurd (let is : 100 ≡ 200 = f in omega arith)
mixed (inr (inr (e, f))) = absurd (let is : 2 ≡ 1 = e in omega arith)

none_frozen : (forest : ℕ) → IsFrozenForest first_forest marks 4 forest → ⊥
none_frozen forest (inl (e, f)) = absurd (let is : 4 ≡ 3 = e in omega arith)
none_frozen forest (inr (inl (e, f))) = absurd (let is : 4 ≡ 2 = e in omega arith)
none_frozen forest (inr (inr (e, f))) = absurd (let is : 4 ≡ 1 = e in omega arith)

pub returns : goal.returns
returns c = record {
  newest_first = refl;
  newest_second = refl;
  at_nine = only_first;
  at_ten_old = inl refl;
  at_ten_new = let le : 10 ≤ 10 = omega arith in inr (refl, inr (inl (refl, le)));
  at_ten = first_or_second;
  at_twelve = only_second;
  at_twenty_old = inl refl;
  at_twenty_new = let le : 19 ≤ 20 = omega arith in inr (refl, inl (refl, le));
  at_twenty = second_or_third;
  forest_one = inr (inr (refl, refl));
  forest_two = inr (inl (refl, refl));
  not_mixed = mixed;
  none = none_frozen;
}
