use Rattle.h2_memory_sets.proofs.Held.{new_held}
use Rattle.h2_memory_sets.proofs.adding.new_reference.Goals as goal

pub returns-clause-held : goal.returns-clause-held
returns-clause-held c = new_held _ _ _ c.requires.aligned c.requires.ends c.requires.keybits.0 c.requires.keybits.1 c.requires.epoch.0 c.requires.epoch.1
