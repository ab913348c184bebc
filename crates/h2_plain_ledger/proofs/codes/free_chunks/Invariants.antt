use Rattle.std.proofs.Common.{◌≡◌, ◌≤◌}
use Rattle.h2_codes.specs.Codes.{code_at}
use Rattle.h2_codes.specs.Free.{free_below}
use Rattle.h2_plain_ledger.proofs.codes.free_chunks.Given as goal

abbrev pub invariant-loop-chunk : goal.invariant-loop-chunk
invariant-loop-chunk l = record {
  counted : l.free ≡ free_below (code_at l.codes) l.chunk;
  few : l.free ≤ l.chunk;
}
