use Rattle.h2_header.specs.FaultLaws.{fault-none, one_fault}
use Rattle.h2_header.proofs.laws.refusal_law.Goals as goal

pub returns-clause-refused : goal.returns-clause-refused
returns-clause-refused c = fault-none

pub returns-clause-one_fault : goal.returns-clause-one_fault
returns-clause-one_fault c = one_fault
