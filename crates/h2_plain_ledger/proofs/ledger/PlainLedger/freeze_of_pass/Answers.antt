use Rattle.std.proofs.Common.{rules}
use Rattle.h2_plain_ledger.proofs.Quiet.{freezes_of_pass_to}
use Rattle.h2_plain_ledger.proofs.ledger.PlainLedger.freeze_of_pass.Goals as goal

pub returns-clause-moves : goal.returns-clause-moves
returns-clause-moves c = freezes_of_pass_to _ _ c.in-None.is c.in-Begun.is (search rules)
