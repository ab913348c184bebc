use Rattle.std.proofs.Common.{arith}
use Rattle.h2_plain_ledger.proofs.CodeLists.{applied_more}
use Rattle.h2_plain_ledger.proofs.codes.apply_segment.Goals as goal

pub loop-k-preserved : goal.loop-k-preserved
loop-k-preserved c = applied_more c.args.marked.now c.args.first c.loop-k.k c.args.codes.now c.loop-k.codes c.code_after.result (omega arith) c.loop-k.invariant c.code_after.ensures
