use Rattle.h2_num.specs.Places.{places}
use Rattle.h2_set.specs.SetBytes.{AreRefs}
use Rattle.h2_set.proofs.set_decoding.check_refs.Given as goal

abbrev pub invariant-loop-i : goal.invariant-loop-i
invariant-loop-i l = AreRefs l.i (places l.b)
