use Rattle.h2_node_rows.specs.SuperRootLaws.{unloaded}
use Rattle.h2_file_rows.proofs.tests.files.Files.unload.Goals as goal

pub returns : goal.returns
returns c = unloaded _ _ _ c.requires c.unload_inodes.ensures.unloads
