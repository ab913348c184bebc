use Rattle.h2_set.proofs.Holding.{ends_above}
use Rattle.h2_set.proofs.conditions.ends_in_keys.Goals as goal

pub returns-then-r-gt64 : goal.returns-then-r-gt64
returns-then-r-gt64 c = ends_above c.args.r.now.key c.args.r.now.keybits c.if-r-gt64.true
