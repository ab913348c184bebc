use Rattle.h2_file_rows.proofs.Topped.{walked}
use Rattle.h2_file_rows.proofs.tests.files.Files.leaf_at.Goals as goal

pub returns-clause-top : goal.returns-clause-top
returns-clause-top c = walked _ _ _ c.requires c.lookup.ensures.walks
