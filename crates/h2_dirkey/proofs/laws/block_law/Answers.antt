use Rattle.h2_dirkey.specs.BlockLaws.{name_spelling, name_one, NameBytes-same}
use Rattle.h2_dirkey.proofs.laws.block_law.Goals as goal

pub returns : goal.returns
returns c = record { one_spelling = name_spelling; one_value = name_one; local = NameBytes-same }
