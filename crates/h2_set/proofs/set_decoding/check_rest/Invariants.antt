use Rattle.h2_num.specs.Places.{places}
use Rattle.h2_set.specs.SetBytes.{AreRefs}
use Rattle.h2_set.specs.Front.{EmptyFrom}
use Rattle.h2_set.proofs.set_decoding.check_rest.Given as goal

abbrev pub invariant-loop-i : goal.invariant-loop-i
invariant-loop-i l = record { decoded : AreRefs l.i (places l.b); empty : EmptyFrom l.from l.i (places l.b) }
