use Rattle.h2_forest.proofs.KeptNumbers.{answer_numbers, fresh_numbers}
use Rattle.h2_forest.proofs.laws.numbers_law.Goals as goal

pub returns-clause-fresh : goal.returns-clause-fresh
returns-clause-fresh c = fresh_numbers

pub returns-clause-kept : goal.returns-clause-kept
returns-clause-kept c = answer_numbers
