use Rattle.h2_file.proofs.Written.{read_whole, written_links, written_covers}
use Rattle.h2_file.proofs.laws.written_law.Goals as goal

pub returns-clause-read : goal.returns-clause-read
returns-clause-read c = read_whole

pub returns-clause-links : goal.returns-clause-links
returns-clause-links c = written_links

pub returns-clause-covers : goal.returns-clause-covers
returns-clause-covers c = written_covers
