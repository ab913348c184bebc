use Rattle.std.proofs.Common.{◌≤◌, ◌*◌, ◌/◌}
use Rattle.h2_codes.specs.Codes.{NoneFree}
use Rattle.h2_codes.specs.Packed.{codes_in}
use Rattle.h2_codes.proofs.segment.Segment.next_free.Given as goal

abbrev pub invariant-loop-j : goal.invariant-loop-j
invariant-loop-j l = record {
  none : NoneFree l.from (32 * l.j) (codes_in l.self-inside.codes);
  start : l.from / 32 ≤ l.j;
}
