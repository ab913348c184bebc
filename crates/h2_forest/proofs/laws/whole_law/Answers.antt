use Rattle.std.proofs.Common.{[], subst, sym, IsPermutation}
use Rattle.std.proofs.lemmas.List.Sorted.{IsPermutation-refl, length_permutation}
use Rattle.h2_forest.specs.Whole.{called, asked_from}
use Rattle.h2_forest.proofs.laws.whole_law.Goals as goal

pub returns-clause-in_order : goal.returns-clause-in_order
returns-clause-in_order c = λ h script is. subst (IsPermutation (called h)) is (IsPermutation-refl (called h))

pub returns-clause-counted : goal.returns-clause-counted
returns-clause-counted c = λ h script whole. sym (length_permutation (called h) (asked_from 0 [] script) whole)
