use Rattle.h2_file_rows.proofs.Topped.{linked_or_not}
use Rattle.h2_file_rows.proofs.tests.files.Files.link_at.Goals as goal

pub returns : goal.returns
returns c = linked_or_not _ _ _ _ _ _ _ c.requires.top c.requires.file c.link_blocks.ensures.links c.link_blocks.ensures.walks
