use Rattle.h2_image.specs.NewLeafLaws.{new_leaves}
use Rattle.h2_image.proofs.laws.new_leaf_law.Goals as goal

pub returns : goal.returns
returns c = new_leaves
