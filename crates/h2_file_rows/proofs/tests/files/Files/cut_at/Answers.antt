use Rattle.h2_file_rows.proofs.Topped.{cut_or_not}
use Rattle.h2_file_rows.proofs.tests.files.Files.cut_at.Goals as goal

pub returns : goal.returns
returns c = cut_or_not _ _ _ _ _ _ _ _ c.requires.top c.requires.file c.cut_blocks.ensures.cuts c.cut_blocks.ensures.walks
