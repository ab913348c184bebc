use Rattle.std.proofs.Common.{◌≡◌, map, take, drop, ◌++◌}
use Rattle.h2_memory_sets.specs.View.{unloaded}
use Rattle.h2_memory_sets.proofs.unloading.unload_all.Given as goal

abbrev pub invariant-loop-i : goal.invariant-loop-i
invariant-loop-i l = l.nodes ≡ map (unloaded l.from) (take l.i l.initial.nodes) ++ drop l.i l.initial.nodes
