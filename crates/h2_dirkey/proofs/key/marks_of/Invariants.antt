use Rattle.std.proofs.Common.{◌≡◌, ◌<◌, ◌+◌, ℕ, Contains, get_or}
use Rattle.h2_dirkey.specs.Marks.{IsMarked}
use Rattle.h2_dirkey.proofs.key.marks_of.Given as goal

abbrev pub invariant-loop-other : goal.invariant-loop-other
invariant-loop-other l = record {
  sound : (k : ℕ) → k < 32768 → IsMarked l.marks.words k → Contains l.used (l.key + k);
  complete : (k i : ℕ) → k < 32768 → i < l.other-index → get_or l.used i 0 ≡ l.key + k → IsMarked l.marks.words k;
}
