use Rattle.std.proofs.Common.{◌^◌, ◌-◌, arith}
use Rattle.h2_set.specs.SplitLaws.{below_high}
use Rattle.h2_set.proofs.Slots.{rising_to}
use Rattle.h2_set.proofs.set_decoding.may_follow.Goals as goal

pub returns : goal.returns
returns c = (
  λ yes. rising_to 0 (2 ^ 64) c.args.key (c.len-len.result - 1) c.args.set.now.refs c.at.result.now c.len-len.ensures.set.rising (omega arith) c.at.ensures (c.ends_by.ensures.0 yes),
  λ rises. c.ends_by.ensures.1 (below_high 0 c.args.key c.args.set.now.refs (c.len-len.result - 1) c.at.result.now rises c.at.ensures),
)
