use Rattle.h2_inode.specs.LoadedLaws.{walks_reread, readies_reread, seeks_reread}
use Rattle.h2_inode.proofs.loaded_laws.rereading_law.Goals as goal

pub returns-clause-blocks : goal.returns-clause-blocks
returns-clause-blocks c = walks_reread

pub returns-clause-ready : goal.returns-clause-ready
returns-clause-ready c = readies_reread

pub returns-clause-inodes : goal.returns-clause-inodes
returns-clause-inodes c = seeks_reread
