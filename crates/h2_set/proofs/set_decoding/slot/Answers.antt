use Rattle.h2_set.proofs.Slots.{slot_at}
use Rattle.h2_set.proofs.set_decoding.slot.Goals as goal

pub returns : goal.returns
returns c = slot_at c.args.b.now c.split_at.result.1.now c.in-Some.bytes.now c.args.i c.split_at.ensures.back c.in-Some.ensures.cases.0
