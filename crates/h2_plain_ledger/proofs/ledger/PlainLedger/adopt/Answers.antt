use Rattle.std.proofs.Common.{rules}
use Rattle.h2_plain_ledger.proofs.Joining.{adopts_to}
use Rattle.h2_plain_ledger.proofs.ledger.PlainLedger.adopt.Goals as goal

pub returns-clause-moves : goal.returns-clause-moves
returns-clause-moves c = adopts_to _ _ c.args.block (search rules) (search rules)
