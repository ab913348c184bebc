use Rattle.h2_file.proofs.Held.{reads_ok}
use Rattle.h2_file.proofs.reading.read_block.Goals as goal

pub returns-clause-contents : goal.returns-clause-contents
returns-clause-contents g c = λ blocks size bytes has. reads_ok _ _ _ blocks _ size bytes _ c.lookup.result c.lookup.ensures.found has
