use Rattle.h2_ref.specs.FaultLaws.{fault-none, none-spelled}
use Rattle.h2_ref.proofs.laws.refusal_law.Goals as goal

pub returns-clause-refused : goal.returns-clause-refused
returns-clause-refused c = fault-none

pub returns-clause-spelled : goal.returns-clause-spelled
returns-clause-spelled c = none-spelled
