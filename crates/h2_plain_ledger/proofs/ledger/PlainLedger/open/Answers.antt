use Rattle.std.proofs.Common.{rules}
use Rattle.h2_plain_ledger.proofs.Quiet.{opens_as}
use Rattle.h2_plain_ledger.proofs.ledger.PlainLedger.open.Goals as goal

pub returns-clause-opens : goal.returns-clause-opens
returns-clause-opens c = opens_as _ c.args.codes.items c.args.number (search rules)
