use Rattle.h2_inode.specs.FaultLaws.{fault_refuses}
use Rattle.h2_inode.specs.OneFault.{fault_one}
use Rattle.h2_inode.proofs.laws.refusal_law.Goals as goal

pub returns-clause-refused : goal.returns-clause-refused
returns-clause-refused c = fault_refuses

pub returns-clause-one : goal.returns-clause-one
returns-clause-one c = fault_one
