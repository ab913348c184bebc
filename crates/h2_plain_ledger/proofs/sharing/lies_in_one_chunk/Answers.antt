use Rattle.std.proofs.Common.{◌^◌, ◌≤◌, arith}
use Rattle.std.proofs.Math.Pow.{pow_mono}
use Rattle.h2_plain_ledger.proofs.sharing.lies_in_one_chunk.Goals as goal

pub returns-then-block-gt14 : goal.returns-then-block-gt14
returns-then-block-gt14 c = (λ t. absurd (cc), λ lies. let big : 2 ^ 15 ≤ 2 ^ c.args.block.radix = pow_mono {i = 15} {j = c.args.block.radix} (omega arith) in absurd (omega arith))
