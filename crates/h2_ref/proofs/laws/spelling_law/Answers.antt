use Rattle.h2_ref.specs.Spelling.{one_spelling, one_value}
use Rattle.h2_ref.proofs.laws.spelling_law.Goals as goal

pub returns-clause-one_spelling : goal.returns-clause-one_spelling
returns-clause-one_spelling c = one_spelling

pub returns-clause-one_value : goal.returns-clause-one_value
returns-clause-one_value c = one_value
