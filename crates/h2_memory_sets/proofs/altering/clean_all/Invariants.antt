use Rattle.std.proofs.Common.{◌≡◌, false, map, take, drop, ◌++◌}
use Rattle.h2_memory_sets.specs.View.{with_dirty}
use Rattle.h2_memory_sets.proofs.altering.clean_all.Given as goal

abbrev pub invariant-loop-i : goal.invariant-loop-i
invariant-loop-i l = l.nodes ≡ map (with_dirty false) (take l.i l.initial.nodes) ++ drop l.i l.initial.nodes
