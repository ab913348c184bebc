use Rattle.h2_inode.specs.Cause.IsInodeCause.{no_inode, other_number}
use Rattle.h2_inode.proofs.judging.judge_inode.Goals as goal

pub returns-else-has_number : goal.returns-else-has_number
returns-else-has_number c =
    other_number c.in-Ok.inode c.in-Ok.ensures.found.0 c.in-Ok.ensures.found.1 (λ is. let yes = c.has_number.ensures.1 is in let no = c.if-has_number.false in cc)

pub returns-in-Err : goal.returns-in-Err
returns-in-Err c = rw c.why_of.ensures (no_inode c.in-Err.fault c.in-Err.ensures.fault)
