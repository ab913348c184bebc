use Rattle.h2_forest.proofs.KeptNames.{answer_names, fresh_names, answer_good, fresh_good}
use Rattle.h2_forest.proofs.laws.names_law.Goals as goal

pub returns-clause-fresh : goal.returns-clause-fresh
returns-clause-fresh c = fresh_names

pub returns-clause-kept : goal.returns-clause-kept
returns-clause-kept c = answer_names

pub returns-clause-fresh_good : goal.returns-clause-fresh_good
returns-clause-fresh_good c = fresh_good

pub returns-clause-kept_good : goal.returns-clause-kept_good
returns-clause-kept_good c = answer_good
