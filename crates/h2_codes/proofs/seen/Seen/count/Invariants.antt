use Rattle.std.proofs.Common.{◌≡◌, ◌≤◌, ◌*◌, take}
use Rattle.h2_codes.specs.Seen.{count_in}
use Rattle.h2_codes.proofs.seen.Seen.count.Given as goal

abbrev pub invariant-loop-j : goal.invariant-loop-j
invariant-loop-j l = record {
  counted : l.n ≡ count_in (take (32 * l.j) l.self);
  bound : l.n ≤ 32 * l.j;
}
