use Rattle.h2_meaning.specs.ImageLaws.{image_single, image_forest_one, image_stands_one}
use Rattle.h2_meaning.specs.LocalLaws.{image_local, image_stands_local}
use Rattle.h2_meaning.specs.RisingLaws.{image_leaves_rise}
use Rattle.h2_meaning.proofs.laws.image_law.Goals as goal

pub returns : goal.returns
returns c = record { single = image_single; one_forest = image_forest_one; local = image_local; one_stands = image_stands_one; stands_local = image_stands_local; order = image_leaves_rise }
