use Rattle.std.proofs.Common.{◌≡◌, ◌≤◌, ◌*◌, take}
use Rattle.h2_codes.specs.Codes.{count_of}
use Rattle.h2_codes.specs.Packed.{codes_in}
use Rattle.h2_codes.proofs.segment.count_codes.Given as goal

abbrev pub invariant-loop-j : goal.invariant-loop-j
invariant-loop-j l = record {
  counted : l.n ≡ count_of l.code (take (32 * l.j) (codes_in l.bytes));
  bound : l.n ≤ 32 * l.j;
}
