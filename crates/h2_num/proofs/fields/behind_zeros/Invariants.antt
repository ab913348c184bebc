use Rattle.std.proofs.Common.{◌+◌, ◌*◌}
use Rattle.h2_num.specs.Places.{places, ZeroIn}
use Rattle.h2_num.proofs.fields.behind_zeros.Given as goal

abbrev pub invariant-loop-i : goal.invariant-loop-i
invariant-loop-i l = ZeroIn l.from (l.from + 8 * l.i) (places l.b)
