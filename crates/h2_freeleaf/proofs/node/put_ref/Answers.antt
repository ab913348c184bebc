use Rattle.std.proofs.Common.{rules}
use Rattle.h2_num.specs.Places.{places}
use Rattle.h2_ref.specs.Ref.{RefBytes}
use Rattle.h2_ref.specs.RefLaws.{RefBytes-same}
use Rattle.h2_freeleaf.proofs.Parts.{part_laid}
use Rattle.h2_freeleaf.proofs.node.put_ref.Goals as goal

pub returns-clause-bytes : goal.returns-clause-bytes
returns-clause-bytes c = part_laid RefBytes RefBytes-same c.args.r.now c.args.at c.encode.result (places c.args.out.now) (places c.put_bytes.new.b) (search rules) c.encode.ensures c.put_bytes.ensures
