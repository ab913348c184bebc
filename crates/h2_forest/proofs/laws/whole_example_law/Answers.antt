use Rattle.std.proofs.Common.{◌≡◌, ℕ, ◌<◌, [], ◌∷◌, arith, refl}
use Rattle.std.proofs.lemmas.List.Sorted.{length_permutation}
use Rattle.h2_forest.specs.Whole.{called, asked_from}
use Rattle.h2_forest.specs.WholeExample.{two_phases, four_entries}
use Rattle.h2_forest.proofs.laws.whole_example_law.Goals as goal

four_not_five : ◌≡◌ {A = ℕ} 5 4 → ⊥
four_not_five e = absurd (omega arith)

pub returns-clause-whole : goal.returns-clause-whole
returns-clause-whole c =
    let first : 0 < 5 = omega arith in
    let second : 1 < 5 = omega arith in
    record { moves = (0, 1) ∷ []; below = (first, second, tt); is = refl }

pub returns-clause-wanting : goal.returns-clause-wanting
returns-clause-wanting c = λ whole. four_not_five (length_permutation (called four_entries) (asked_from 0 [] two_phases) whole)
