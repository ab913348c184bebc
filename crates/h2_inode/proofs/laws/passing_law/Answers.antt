use Rattle.h2_inode.specs.PassLaws.{Passes-same}
use Rattle.h2_inode.proofs.laws.passing_law.Goals as goal

pub returns : goal.returns
returns c = Passes-same
