use Rattle.std.proofs.Common.{◌<◌, ◌≤◌, ◌+◌, ℕ}
use Rattle.h2_memory_sets.specs.Inodes.{IsSought}
use Rattle.h2_memory_sets.specs.Kept.{AreKept}
use Rattle.h2_memory_sets.proofs.seeking.find_away_root.Given as goal

abbrev pub invariant-loop-i : goal.invariant-loop-i
invariant-loop-i l = AreKept l.nodes → (j : ℕ) → j < l.n → l.n ≤ j + l.i → IsSought l.nodes l.root l.key j → ⊥
