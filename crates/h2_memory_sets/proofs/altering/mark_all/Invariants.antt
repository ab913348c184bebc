use Rattle.std.proofs.Common.{◌≡◌, ◌||◌, map, take, drop, ◌++◌}
use Rattle.h2_memory_sets.specs.View.{is_above, is_over, with_dirty}
use Rattle.h2_memory_sets.proofs.altering.mark_all.Given as goal

abbrev pub invariant-loop-i : goal.invariant-loop-i
invariant-loop-i l = l.nodes ≡ map (λ x. with_dirty (x.dirty || (is_above l.at x || is_over l.initial.nodes l.at.root x)) x) (take l.i l.initial.nodes) ++ drop l.i l.initial.nodes
