use Rattle.std.specs.List.{AllAdjacentBelow}
use Rattle.h2_ref.specs.Set.{MayFollow}
use Rattle.h2_ref.proofs.set.is_set.Given as goal

abbrev pub invariant-loop-i : goal.invariant-loop-i
invariant-loop-i l = AllAdjacentBelow MayFollow l.refs l.i
