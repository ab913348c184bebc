use Rattle.std.proofs.Common.{length}
use Rattle.h2_num.specs.Places.{places}
use Rattle.h2_inode.specs.Cause.IsSetCause.{no_set, unarranged}
use Rattle.h2_inode.proofs.Judged.{set_here, fault_here}
use Rattle.h2_inode.proofs.judging.judge_set.Goals as goal

pub returns-else-is_arranged : goal.returns-else-is_arranged
returns-else-is_arranged c =
    unarranged c.in-Ok.set.refs (set_here (length c.args.b.now) c.in-Ok.set.capacity c.in-Ok.set.refs (places c.args.b.now) c.in-Ok.ensures.capacity c.requires.size c.in-Ok.ensures.found)
    (λ is. let yes = c.is_arranged.ensures.1 is in let no = c.if-is_arranged.false in cc)

pub returns-in-Err : goal.returns-in-Err
returns-in-Err c = rw c.why_of_set.ensures (no_set c.in-Err.fault (fault_here (length c.args.b.now) (places c.args.b.now) c.in-Err.fault c.requires.size c.in-Err.ensures.fault))
