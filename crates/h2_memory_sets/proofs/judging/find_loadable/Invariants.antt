use Rattle.std.proofs.Common.{◌<◌, ℕ}
use Rattle.h2_memory_sets.specs.View.{IsLoadable}
use Rattle.h2_memory_sets.proofs.judging.find_loadable.Given as goal

abbrev pub invariant-loop-c : goal.invariant-loop-c
invariant-loop-c l = l.r.keybits < 64 → (j : ℕ) → j < l.c → IsLoadable l.nodes l.at l.r j → ⊥
