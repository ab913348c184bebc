use Rattle.std.proofs.Common.{arith}
use Rattle.h2_plain_ledger.specs.PlainLedger.{lists_of}
use Rattle.h2_plain_ledger.proofs.Quiet.{begins_scan}
use Rattle.h2_plain_ledger.proofs.ledger.PlainLedger.begin_scan.Goals as goal

pub returns-clause-moves : goal.returns-clause-moves
returns-clause-moves c = begins_scan (lists_of c.args.self.now) c.in-Marked.number c.in-Marked.is (omega arith)
