use Rattle.h2_dir.proofs.Areas.{area_is}
use Rattle.h2_dir.proofs.entry.area_of.Goals as goal

pub returns : goal.returns
returns c = area_is _ _ c.requires c.put_bytes.auto.b c.put_bytes.ensures
