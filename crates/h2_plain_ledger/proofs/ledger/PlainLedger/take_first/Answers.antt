use Rattle.std.proofs.Common.{rules}
use Rattle.h2_plain_ledger.proofs.Joining.{takes_first}
use Rattle.h2_plain_ledger.proofs.ledger.PlainLedger.take_first.Goals as goal

pub returns-clause-moves : goal.returns-clause-moves
returns-clause-moves c = takes_first _ _ c.args.size c.args.payment _ (search rules)
