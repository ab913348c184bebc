use Rattle.std.proofs.Common.{◌<◌, ℕ}
use Rattle.h2_dirkey.specs.Marks.{IsMarked}
use Rattle.h2_dirkey.proofs.key.pick.Given as goal

abbrev pub invariant-loop-c : goal.invariant-loop-c
invariant-loop-c l = (k : ℕ) → k < l.c → IsMarked l.marks.words k
