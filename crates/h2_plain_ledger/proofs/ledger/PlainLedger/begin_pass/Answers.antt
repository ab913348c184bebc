use Rattle.h2_plain_ledger.specs.PlainLedger.{lists_of}
use Rattle.h2_plain_ledger.proofs.Quiet.{begins_pass}
use Rattle.h2_plain_ledger.proofs.ledger.PlainLedger.begin_pass.Goals as goal

pub returns-clause-moves : goal.returns-clause-moves
returns-clause-moves c = begins_pass (lists_of c.args.self.now) c.in-Idle.is
