use Rattle.h2_meaning.specs.ExampleLaws.{file_stands}
use Rattle.h2_meaning.proofs.example.one_block_law.Goals as goal

pub returns : goal.returns
returns c = file_stands
