use Rattle.h2_meaning.specs.ExampleLaws.{new_volume_lists, new_volume_stands, new_volume_single, unchanged_follows}
use Rattle.h2_meaning.proofs.example.new_volume_law.Goals as goal

pub returns : goal.returns
returns c = record { list = new_volume_lists; forest = new_volume_stands; single = new_volume_single; follows = unchanged_follows }
