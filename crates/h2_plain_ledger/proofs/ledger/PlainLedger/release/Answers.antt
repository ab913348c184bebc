use Rattle.h2_plain_ledger.specs.PlainLedger.{lists_of}
use Rattle.h2_plain_ledger.proofs.Quiet.{releases}
use Rattle.h2_plain_ledger.proofs.ledger.PlainLedger.release.Goals as goal

pub returns-clause-moves : goal.returns-clause-moves
returns-clause-moves c = releases (lists_of c.args.self.now) c.args.chunks
