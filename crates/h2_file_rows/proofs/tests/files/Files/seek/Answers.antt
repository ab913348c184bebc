use Rattle.h2_file_rows.proofs.Topped.{sought_or_not, some_inode}
use Rattle.h2_file_rows.proofs.tests.files.Files.seek.Goals as goal

pub returns-clause-top : goal.returns-clause-top
returns-clause-top c = sought_or_not _ _ _ _ _ c.requires.top c.seek.ensures.ok c.seek.ensures.same

pub returns-clause-inode : goal.returns-clause-inode
returns-clause-inode c = some_inode _ _ _ _ c.seek.ensures.inode
