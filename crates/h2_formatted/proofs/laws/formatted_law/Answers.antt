use Rattle.h2_formatted.proofs.NewInodes.{new_volume_stands}
use Rattle.h2_formatted.proofs.laws.formatted_law.Goals as goal

pub returns-clause-stands : goal.returns-clause-stands
returns-clause-stands c = new_volume_stands

pub returns-clause-formatted : goal.returns-clause-formatted
returns-clause-formatted c = λ image zones f. (f.header, f.newest, new_volume_stands image f.header zones f.stands)
