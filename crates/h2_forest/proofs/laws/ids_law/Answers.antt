use Rattle.h2_forest.proofs.KeptIds.{answer_ids, fresh_ids}
use Rattle.h2_forest.proofs.laws.ids_law.Goals as goal

pub returns-clause-fresh : goal.returns-clause-fresh
returns-clause-fresh c = fresh_ids

pub returns-clause-kept : goal.returns-clause-kept
returns-clause-kept c = λ f client command ids. answer_ids f client command ids
