use Rattle.std.proofs.Common.{arith}
use Rattle.h2_num.proofs.Pasted.{put_number}
use Rattle.h2_num.proofs.fields.put64.Goals as goal

pub returns : goal.returns
returns c = put_number c.args.at 8 c.args.v c.args.b.now c.write_u64.new.buf c.requires (omega arith) c.write_u64.ensures
