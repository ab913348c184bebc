use Rattle.h2_node_rows.specs.SuperRootLaws.{unloaded, unloaded_from}
use Rattle.h2_dir_rows.proofs.tests.directory.Directory.unload.Goals as goal

pub returns : goal.returns
returns c = unloaded_from _ _ _ 0 (unloaded _ _ _ c.requires c.unload_inodes.ensures.unloads) c.unload.ensures.unloads
