use Rattle.std.proofs.Common.{◌≡◌, map, take, drop, ◌++◌}
use Rattle.h2_memory_sets.specs.View.{dropped}
use Rattle.h2_memory_sets.proofs.dropping.drop_all.Given as goal

abbrev pub invariant-loop-i : goal.invariant-loop-i
invariant-loop-i l = l.nodes ≡ map (dropped l.initial.nodes l.root l.bits l.old.refs l.new.refs) (take l.i l.initial.nodes) ++ drop l.i l.initial.nodes
