use Rattle.h2_num.specs.Places.{places}
use Rattle.h2_set.specs.Front.{AreWritten}
use Rattle.h2_set.proofs.set_encoding.encode_set.Given as goal

abbrev pub invariant-loop-i : goal.invariant-loop-i
invariant-loop-i l = AreWritten l.i l.s.refs (places l.out)

abbrev pub invariant-loop-i-2 : goal.invariant-loop-i-2
invariant-loop-i-2 l = AreWritten l.i l.s.refs (places l.out)
