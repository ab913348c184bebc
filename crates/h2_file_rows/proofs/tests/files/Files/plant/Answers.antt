use Rattle.h2_node_rows.specs.SuperRootLaws.{brought}
use Rattle.h2_file_rows.proofs.tests.files.Files.plant.Goals as goal

pub returns : goal.returns
returns c = let plants = c.plant.ensures.plants in brought _ _ _ _ c.requires.top plants.brings
