use Rattle.std.proofs.Common.{◌≢◌, ◌<◌, ℕ, ◌++◌, arith, refl}
use Rattle.h2_ledger.specs.Moves.{apply}
use Rattle.std.specs.List.{AllByRecursion}
use Rattle.h2_ledger_rows.specs.Passes.{half_pass, pass_moves, two_passes, given_up}
use Rattle.h2_ledger_rows.proofs.Lists.{of_each, segment_by, pass_by, two_segments}
use Rattle.h2_ledger_rows.proofs.passes.worked_passes_law.Goals as goal

pub returns-clause-complete : goal.returns-clause-complete
returns-clause-complete c = two_segments 2 (pass_moves 2) (4, omega arith, refl) (5, omega arith, refl)

pub returns-clause-not_half : goal.returns-clause-not_half
returns-clause-not_half c all =
    let few : segment_by (apply 2 1) < 2 = of_each (λ m. segment_by m < 2) (half_pass 2) (apply 2 1) (omega arith, (omega arith, (omega arith, (omega arith, (omega arith, tt))))) (all 1 (omega arith)) in
    absurd (let f : 2 < 2 = few in omega arith)

pub returns-clause-not_larger : goal.returns-clause-not_larger
returns-clause-not_larger c all =
    let few : segment_by (apply 2 2) < 3 = of_each (λ m. segment_by m < 3) (pass_moves 2) (apply 2 2) (omega arith, (omega arith, (omega arith, (omega arith, (omega arith, (omega arith, tt)))))) (all 2 (omega arith)) in
    absurd (let f : 3 < 3 = few in omega arith)

pub returns-clause-not_another : goal.returns-clause-not_another
returns-clause-not_another c all =
    let few : pass_by (apply 3 0) < 3 = of_each (λ m. pass_by m < 3) (pass_moves 2) (apply 3 0) (omega arith, (omega arith, (omega arith, (omega arith, (omega arith, (omega arith, tt)))))) (all 0 (omega arith)) in
    absurd (let f : 3 < 3 = few in omega arith)

pub returns-clause-successive : goal.returns-clause-successive
returns-clause-successive c = record {
  first = two_segments 2 two_passes (4, omega arith, refl) (5, omega arith, refl);
  second = two_segments 3 two_passes (10, omega arith, refl) (11, omega arith, refl);
  none_between = λ r low high all. absurd (omega arith);
}

pub returns-clause-beside_given_up : goal.returns-clause-beside_given_up
returns-clause-beside_given_up c = record {
  first = two_segments 2 (pass_moves 2 ++ (given_up ++ pass_moves 4)) (4, omega arith, refl) (5, omega arith, refl);
  second = two_segments 4 (pass_moves 2 ++ (given_up ++ pass_moves 4)) (15, omega arith, refl) (16, omega arith, refl);
  none_between = λ r low high all. only r low high (of_each (λ m. pass_by m ≢ r) (pass_moves 2 ++ (given_up ++ pass_moves 4)) (apply r 0) (none r low high) (all 0 (omega arith)));
}
  where
    only : (r : ℕ) → 2 < r → r < 4 → r ≢ r → ⊥
    only r low high ne = ne refl

    none : (r : ℕ) → 2 < r → r < 4 → AllByRecursion (λ m. pass_by m ≢ r) (pass_moves 2 ++ (given_up ++ pass_moves 4))
    none r low high = (zero_not, (zero_not, (zero_not, (zero_not, (two_not, (two_not, (zero_not, (zero_not, (zero_not, (zero_not, (zero_not, (zero_not, (zero_not, (zero_not, (zero_not, (four_not, (four_not, tt)))))))))))))))))
      where
        zero_not : 0 ≢ r
        zero_not e = absurd (omega arith)

        two_not : 2 ≢ r
        two_not e = absurd (omega arith)

        four_not : 4 ≢ r
        four_not e = absurd (omega arith)

pub returns-clause-not_beside : goal.returns-clause-not_beside
returns-clause-not_beside c s = s.none_between 3 (omega arith) (omega arith) (two_segments 3 (two_passes ++ pass_moves 4) (10, omega arith, refl) (11, omega arith, refl))
