use Rattle.std.proofs.Common.{arith}
use Rattle.h2_dirkey.proofs.PickLemmas.{used_below, picked_at}
use Rattle.h2_dirkey.proofs.key.pick.Goals as goal

pub returns-then-not-is_marked : goal.returns-then-not-is_marked
returns-then-not-is_marked c =
    picked_at c.args.key c.loop-c.c c.args.used.now c.marks_of-marks.result.words c.marks_of-marks.ensures (omega arith) c.loop-c.invariant (λ marked. let set = c.is_marked.ensures.1 marked in let unset = c.if-not-is_marked.true in cc)

pub returns : goal.returns
returns c = used_below c.args.key 32768 c.args.used.now c.marks_of-marks.result.words c.marks_of-marks.ensures (omega arith) (λ k lt. c.loop-c.invariant k (omega arith))
