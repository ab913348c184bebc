use Rattle.h2_meaning.specs.NewImageLaws.{one_named, new_blocks_stand}
use Rattle.h2_meaning.proofs.example.new_image_law.Goals as goal

pub returns : goal.returns
returns c = record { named = one_named; stands = new_blocks_stand }
