use Rattle.std.proofs.Common.{inl, inr}
use Rattle.h2_cmd.proofs.run.run_format.Goals as goal

pub returns-in-Ok-Made-clause-prints : goal.returns-in-Ok-Made-clause-prints
returns-in-Ok-Made-clause-prints g c = λ tells. inr (inr (inl (c.args.zones, c.say_formatted.ensures.front tells)))
