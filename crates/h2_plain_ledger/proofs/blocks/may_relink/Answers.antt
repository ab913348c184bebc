use Rattle.h2_plain_ledger.proofs.blocks.may_relink.Goals as goal

pub returns : goal.returns
returns c = (λ t. (c.all_within.ensures.0 c.if-not-all_within.false, c.all_in.ensures.0 t), λ may. c.all_in.ensures.1 may.1)
