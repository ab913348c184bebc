use Rattle.h2_set.specs.SetBytes.{IsHeld}
use Rattle.h2_inode.proofs.HeldRefs.{one_more}
use Rattle.h2_inode.proofs.rules.are_held.Goals as goal

pub loop-i-preserved : goal.loop-i-preserved
loop-i-preserved c = one_more IsHeld _ _ _ c.loop-i.invariant c.at.ensures (c.is_held.ensures.fact.0 c.if-not-is_held.false)
