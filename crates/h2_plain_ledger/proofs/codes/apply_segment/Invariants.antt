use Rattle.h2_plain_ledger.specs.State.{IsApplied}
use Rattle.h2_plain_ledger.proofs.codes.apply_segment.Given as goal

abbrev pub invariant-loop-k : goal.invariant-loop-k
invariant-loop-k l = IsApplied l.marked l.first l.k l.fn.codes l.codes
