use Rattle.h2_inode.specs.InodeLaws.{inode_spelling, inode_one, InodeBytes-same}
use Rattle.h2_inode.proofs.laws.inode_law.Goals as goal

pub returns-clause-one_spelling : goal.returns-clause-one_spelling
returns-clause-one_spelling c = inode_spelling

pub returns-clause-one_value : goal.returns-clause-one_value
returns-clause-one_value c = inode_one

pub returns-clause-local : goal.returns-clause-local
returns-clause-local c = InodeBytes-same
