use Rattle.h2_meaning.specs.ExampleLaws.{entry_stands}
use Rattle.h2_meaning.proofs.example.one_entry_law.Goals as goal

pub returns : goal.returns
returns c = entry_stands
