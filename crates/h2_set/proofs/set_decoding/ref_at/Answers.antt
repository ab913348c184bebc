use Rattle.std.proofs.Common.{◌∙◌, sym, ap, refl}
use Rattle.h2_ref.specs.Fault.{first_fault}
use Rattle.h2_set.proofs.set_decoding.ref_at.Goals as goal

pub returns-in-Ok-clause-decoded : goal.returns-in-Ok-clause-decoded
returns-in-Ok-clause-decoded c = sym (c.in-Ok.ensures.fault ∙ ap first_fault c.slot.ensures)

pub returns-in-Err-clause-fault : goal.returns-in-Err-clause-fault
returns-in-Err-clause-fault c = (refl, sym (c.in-Err.ensures.fault ∙ ap first_fault c.slot.ensures))
