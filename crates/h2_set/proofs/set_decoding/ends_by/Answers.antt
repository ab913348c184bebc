use Rattle.std.proofs.Common.{arith}
use Rattle.h2_set.proofs.Slots.{too_wide}
use Rattle.h2_set.proofs.set_decoding.ends_by.Goals as goal

pub returns-then-r-ge64 : goal.returns-then-r-ge64
returns-then-r-ge64 c = (λ no. absurd (cc), λ le. absurd (too_wide c.args.r.now.key c.args.r.now.keybits c.args.key c.if-r-ge64.true (omega arith) le))
