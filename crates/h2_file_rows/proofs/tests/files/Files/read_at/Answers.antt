use Rattle.h2_file_rows.proofs.Topped.{walked}
use Rattle.h2_file_rows.proofs.tests.files.Files.read_at.Goals as goal

pub returns : goal.returns
returns c = walked _ _ _ c.requires.top c.read_block.ensures.walks
