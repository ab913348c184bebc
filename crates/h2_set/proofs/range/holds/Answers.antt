use Rattle.std.proofs.Common.{arith}
use Rattle.std.proofs.lemmas.Nat.{pow_pos}
use Rattle.h2_set.proofs.Holding.{holds_by_shift, holds_all}
use Rattle.h2_set.proofs.range.holds.Goals as goal

pub returns-then-r-ge64 : goal.returns-then-r-ge64
returns-then-r-ge64 c = grind (arith, holds_all c.args.key c.args.r.now.key c.args.r.now.keybits)

pub returns-else-r-ge64 : goal.returns-else-r-ge64
returns-else-r-ge64 c = holds_by_shift c.args.key c.args.r.now.key _ (pow_pos c.args.r.now.keybits) c.if-r-key.true
