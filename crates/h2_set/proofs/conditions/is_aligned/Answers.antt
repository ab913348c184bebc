use Rattle.std.proofs.Common.{arith}
use Rattle.h2_set.proofs.Holding.{aligned_all}
use Rattle.h2_set.proofs.conditions.is_aligned.Goals as goal

pub returns-then-r-ge64 : goal.returns-then-r-ge64
returns-then-r-ge64 c = grind (arith, aligned_all c.args.r.now.key c.args.r.now.keybits)
