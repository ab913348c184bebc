use Rattle.h2_dir.proofs.FoundLaws.{found_number, missing_number}
use Rattle.h2_dir.proofs.laws.found_law.Goals as goal

pub returns-clause-found : goal.returns-clause-found
returns-clause-found c = found_number

pub returns-clause-missing : goal.returns-clause-missing
returns-clause-missing c = missing_number
