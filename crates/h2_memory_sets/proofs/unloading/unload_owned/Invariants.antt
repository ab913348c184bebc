use Rattle.std.proofs.Common.{◌≡◌, ◌&&◌, slice_get, map, take, drop, ◌++◌}
use Rattle.h2_memory_sets.specs.Owners.{owner_of}
use Rattle.h2_memory_sets.specs.Inodes.{is_unowned, with_loaded}
use Rattle.h2_memory_sets.proofs.unloading.unload_owned.Given as goal

abbrev pub invariant-loop-i : goal.invariant-loop-i
invariant-loop-i l = l.nodes ≡ map (λ x. with_loaded (x.loaded && is_unowned (owner_of (slice_get l.initial.nodes x.root))) x) (take l.i l.initial.nodes) ++ drop l.i l.initial.nodes
