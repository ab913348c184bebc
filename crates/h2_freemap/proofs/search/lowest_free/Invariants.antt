use Rattle.std.proofs.Common.{◌*◌}
use Rattle.h2_codes.specs.Free.{NoneFreeBelow}
use Rattle.h2_freemap.specs.Space.{code_in}
use Rattle.h2_freemap.proofs.search.lowest_free.Given as goal

abbrev pub invariant-loop-s : goal.invariant-loop-s
invariant-loop-s l = NoneFreeBelow (code_in l.segments) (256 * l.s)
