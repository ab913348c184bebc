use Rattle.h2_dirkey.specs.NameLaws.{no_fault, one_fault}
use Rattle.h2_dirkey.proofs.laws.name_law.Goals as goal

pub returns : goal.returns
returns c = record { no_fault = no_fault; one_fault = one_fault }
