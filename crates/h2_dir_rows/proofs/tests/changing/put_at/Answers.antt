use Rattle.h2_dir_rows.proofs.Topped.{entered}
use Rattle.h2_dir_rows.proofs.tests.changing.put_at.Goals as goal

pub returns : goal.returns
returns c = entered _ _ _ _ _ c.requires.top c.requires.opened.apart c.add_at.ensures.adds
