use Rattle.std.proofs.Common.{rules}
use Rattle.h2_plain_ledger.proofs.Joining.{takes_whole}
use Rattle.h2_plain_ledger.proofs.ledger.PlainLedger.take_whole.Goals as goal

pub returns-clause-moves : goal.returns-clause-moves
returns-clause-moves c = takes_whole _ _ c.args.payment _ (search rules)
