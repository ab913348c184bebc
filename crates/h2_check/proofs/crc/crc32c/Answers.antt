use Rattle.std.proofs.Common.{◌∙◌}
use Rattle.h2_num.specs.Places.{places}
use Rattle.h2_check.proofs.Slicing.{next_eight}
use Rattle.h2_check.proofs.crc.crc32c.Goals as goal

pub loop-i-preserved : goal.loop-i-preserved
loop-i-preserved c =
    c.after_eight_bytes-register.ensures
    ∙ next_eight (places c.args.b.now) c.loop-i.i c.loop-i.register c.get64.result (λ k. (c.type_inv.b k).fits) c.loop-i.invariant c.get64.ensures
