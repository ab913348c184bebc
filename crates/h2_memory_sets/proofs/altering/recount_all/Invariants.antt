use Rattle.std.proofs.Common.{◌≡◌, map, take, drop, ◌++◌}
use Rattle.h2_memory_sets.specs.View.{with_copies, count_copied, place_of}
use Rattle.h2_memory_sets.proofs.altering.recount_all.Given as goal

abbrev pub invariant-loop-i : goal.invariant-loop-i
invariant-loop-i l = l.nodes ≡ map (λ x. with_copies (count_copied (place_of x) l.initial.nodes) x) (take l.i l.initial.nodes) ++ drop l.i l.initial.nodes
