use Rattle.std.proofs.Common.{◌≡◌, map, take, drop, ◌++◌}
use Rattle.h2_memory_sets.specs.View.{moved}
use Rattle.h2_memory_sets.proofs.moving.move_below.Given as goal

abbrev pub invariant-loop-i : goal.invariant-loop-i
invariant-loop-i l = l.nodes ≡ map (moved l.at l.c l.r) (take l.i l.initial.nodes) ++ drop l.i l.initial.nodes
