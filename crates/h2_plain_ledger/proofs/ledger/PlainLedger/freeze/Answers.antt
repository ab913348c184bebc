use Rattle.std.proofs.Common.{rules}
use Rattle.h2_plain_ledger.proofs.Quiet.{freezes_to}
use Rattle.h2_plain_ledger.proofs.ledger.PlainLedger.freeze.Goals as goal

pub returns-clause-moves : goal.returns-clause-moves
returns-clause-moves c = freezes_to _ _ c.in-None.is (search rules)
