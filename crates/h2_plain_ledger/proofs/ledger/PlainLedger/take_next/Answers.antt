use Rattle.std.proofs.Common.{rules}
use Rattle.h2_plain_ledger.proofs.Joining.{takes_next}
use Rattle.h2_plain_ledger.proofs.ledger.PlainLedger.take_next.Goals as goal

pub returns-clause-moves : goal.returns-clause-moves
returns-clause-moves c = takes_next _ _ c.args.size _ (search rules)
