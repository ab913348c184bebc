use Rattle.h2_forest.specs.Forest.{closed}
use Rattle.h2_consistent.specs.Consistent.{AreConsistent}
use Rattle.h2_consistent.proofs.Forests.{fresh_consistent, answer_consistent, trim_consistent, closed_consistent}
use Rattle.h2_consistent.proofs.Histories.{forest_keeps, frozen_keeps}
use Rattle.h2_consistent.proofs.laws.consistent_law.Goals as goal

pub returns-clause-fresh : goal.returns-clause-fresh
returns-clause-fresh c = fresh_consistent

pub returns-clause-kept : goal.returns-clause-kept
returns-clause-kept c = λ f client command h. answer_consistent f h client command

pub returns-clause-trimmed : goal.returns-clause-trimmed
returns-clause-trimmed c = trim_consistent

pub returns-clause-closed : goal.returns-clause-closed
returns-clause-closed c = closed_consistent

pub returns-clause-cleaned : goal.returns-clause-cleaned
returns-clause-cleaned c = λ f h. trim_consistent (closed f) (closed_consistent f h)

pub returns-clause-history : goal.returns-clause-history
returns-clause-history c = λ items first i h. forest_keeps AreConsistent (λ f client command h. answer_consistent f h client command) items first i (closed_consistent first h)

pub returns-clause-frozen : goal.returns-clause-frozen
returns-clause-frozen c = λ opened first items n f h e. frozen_keeps AreConsistent (λ f client command h. answer_consistent f h client command) opened first items n f h (closed_consistent first h) e
