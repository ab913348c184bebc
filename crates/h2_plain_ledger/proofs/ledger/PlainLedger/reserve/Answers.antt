use Rattle.std.proofs.Common.{◌≡◌, arith}
use Rattle.h2_plain_ledger.specs.PlainLedger.{lists_of}
use Rattle.h2_plain_ledger.specs.Steps.{free_of}
use Rattle.h2_plain_ledger.proofs.Quiet.{reserves}
use Rattle.h2_plain_ledger.proofs.ledger.PlainLedger.reserve.Goals as goal

pub returns-clause-moves : goal.returns-clause-moves
returns-clause-moves c = reserves (lists_of c.args.self.now) c.args.chunks (let free : c.free-free.result ≡ free_of (lists_of c.args.self.now) = c.free-free.ensures in omega arith)
