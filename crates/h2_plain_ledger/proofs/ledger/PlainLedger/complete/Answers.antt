use Rattle.std.proofs.Common.{rules}
use Rattle.h2_plain_ledger.proofs.Quiet.{completes_to}
use Rattle.h2_plain_ledger.proofs.ledger.PlainLedger.complete.Goals as goal

pub returns-clause-moves : goal.returns-clause-moves
returns-clause-moves c = completes_to _ _ (search rules)
