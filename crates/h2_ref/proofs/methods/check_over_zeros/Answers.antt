use Rattle.std.proofs.Common.{◌≡◌, ap, ◌∙◌, arith}
use Rattle.h2_ref.specs.Ref.{check_len}
use Rattle.h2_ref.specs.Spelled.{zeros_at}
use Rattle.h2_ref.proofs.methods.check_over_zeros.Goals as goal

pub returns-in-Nothing-clause-front : goal.returns-in-Nothing-clause-front
returns-in-Nothing-clause-front c = λ k ge lt. zeros_at 128 k

pub returns-in-Nothing-clause-tail : goal.returns-in-Nothing-clause-tail
returns-in-Nothing-clause-tail c = λ k ge lt. zeros_at 128 k

pub returns-in-Xx-clause-front : goal.returns-in-Xx-clause-front
returns-in-Xx-clause-front c = λ k ge lt. c.put64.ensures.others.before k lt ∙ zeros_at 128 k

pub returns-in-Xx-clause-tail : goal.returns-in-Xx-clause-tail
returns-in-Xx-clause-tail c =
    let len : check_len c.args.check ≡ 8 = ap check_len c.in-Xx.is in
    λ k ge lt. c.put64.ensures.others.after k (omega arith) ∙ zeros_at 128 k

pub returns-in-Crc-clause-front : goal.returns-in-Crc-clause-front
returns-in-Crc-clause-front c = λ k ge lt. c.put32.ensures.others.before k lt ∙ zeros_at 128 k

pub returns-in-Crc-clause-tail : goal.returns-in-Crc-clause-tail
returns-in-Crc-clause-tail c =
    let len : check_len c.args.check ≡ 4 = ap check_len c.in-Crc.is in
    λ k ge lt. c.put32.ensures.others.after k (omega arith) ∙ zeros_at 128 k
