use Rattle.h2_node_rows.proofs.Kept.{brought}
use Rattle.h2_node_rows.proofs.tests.under_test.Volume.plant.Goals as goal

pub returns-clause-volume : goal.returns-clause-volume
returns-clause-volume c = let plants = c.plant-at.ensures.plants in brought _ _ _ _ _ c.requires.volume plants.brings
