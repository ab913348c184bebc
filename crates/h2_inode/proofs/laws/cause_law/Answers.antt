use Rattle.h2_inode.specs.CauseLaws.{cause_refuses}
use Rattle.h2_inode.specs.OneCause.{cause_one}
use Rattle.h2_inode.proofs.laws.cause_law.Goals as goal

pub returns-clause-refuses : goal.returns-clause-refuses
returns-clause-refuses c = cause_refuses

pub returns-clause-one : goal.returns-clause-one
returns-clause-one c = cause_one
