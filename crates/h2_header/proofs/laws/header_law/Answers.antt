use Rattle.h2_header.specs.HeaderLaws.{IsHeaderAt-same, header_spelling, header_one}
use Rattle.h2_header.proofs.laws.header_law.Goals as goal

pub returns : goal.returns
returns c = record { one_spelling = header_spelling; one_value = header_one; local = IsHeaderAt-same }
