use Rattle.std.proofs.Common.{arith}
use Rattle.h2_num.proofs.Pasted.{put_number}
use Rattle.h2_num.proofs.fields.put16.Goals as goal

pub returns : goal.returns
returns c = put_number c.args.at 2 c.args.v c.args.b.now c.write_u16.new.buf c.requires (omega arith) c.write_u16.ensures
