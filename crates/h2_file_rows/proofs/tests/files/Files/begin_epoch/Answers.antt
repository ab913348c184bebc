use Rattle.h2_file_rows.proofs.Topped.{begun}
use Rattle.h2_file_rows.proofs.tests.files.Files.begin_epoch.Goals as goal

pub returns : goal.returns
returns c = begun _ _ _ c.requires c.begin_epoch.ensures.begins
