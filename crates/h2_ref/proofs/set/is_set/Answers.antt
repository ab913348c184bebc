use Rattle.h2_ref.proofs.Adjacent.{follow_more}
use Rattle.h2_ref.proofs.set.is_set.Goals as goal

pub loop-i-preserved : goal.loop-i-preserved
loop-i-preserved c = follow_more c.args.refs.now c.loop-i.i _ _ c.loop-i.auto.i c.loop-i-test.true c.loop-i.invariant (c.may_follow.ensures.0 c.if-not-may_follow.false)
