use Rattle.std.proofs.Common.{arith}
use Rattle.h2_num.specs.Places.{places}
use Rattle.h2_set.proofs.Slots.{writes_slot}
use Rattle.h2_set.proofs.set_encoding.put_slot.Goals as goal

pub returns : goal.returns
returns c = writes_slot c.args.r.now c.encode.result c.args.i (places c.args.out.now) (places c.put_bytes.new.b) (omega arith) c.encode.ensures c.put_bytes.ensures
