use Rattle.h2_num.specs.Places.{places, ZeroIn}
use Rattle.h2_num.proofs.fields.first_nonzero.Given as goal

abbrev pub invariant-loop-at : goal.invariant-loop-at
invariant-loop-at l = ZeroIn l.from l.at (places l.b)
