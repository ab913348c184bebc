use Rattle.std.proofs.Common.{rules}
use Rattle.h2_num.specs.Places.{places}
use Rattle.h2_freeleaf.specs.Leaf.{PartBytes}
use Rattle.h2_freeleaf.specs.LeafLaws.{PartBytes-same}
use Rattle.h2_freeleaf.proofs.Parts.{part_laid}
use Rattle.h2_freeleaf.proofs.leaf.put_part.Goals as goal

pub returns-clause-bytes : goal.returns-clause-bytes
returns-clause-bytes c =
    part_laid PartBytes PartBytes-same c.args.segment.now c.args.at c.encode_part.result (places c.args.out.now) (places c.put_bytes.new.b) (search rules) c.encode_part.ensures.bytes c.put_bytes.ensures
