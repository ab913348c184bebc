use Rattle.h2_plain_ledger.specs.PlainLedger.{lists_of}
use Rattle.h2_plain_ledger.proofs.Quiet.{ends_pass}
use Rattle.h2_plain_ledger.proofs.ledger.PlainLedger.end_pass.Goals as goal

pub returns-clause-moves : goal.returns-clause-moves
returns-clause-moves c = ends_pass (lists_of c.args.self.now) (c.may_end.ensures.0 c.if-not-may_end.false)
