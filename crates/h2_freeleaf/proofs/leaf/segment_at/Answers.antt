use Rattle.std.proofs.Common.{◌+◌, ◌*◌}
use Rattle.h2_num.specs.Places.{places}
use Rattle.h2_freeleaf.specs.Leaf.{part_of}
use Rattle.h2_freeleaf.proofs.Leaves.{part_found, part_refused}
use Rattle.h2_freeleaf.proofs.leaf.segment_at.Goals as goal

pub returns-clause-found : goal.returns-clause-found
returns-clause-found c = part_found (places c.part_of.result.now) (part_of c.args.i (places c.args.b.now)) c.decode_part.result c.part_of.ensures c.decode_part.ensures.found

pub returns-clause-fault : goal.returns-clause-fault
returns-clause-fault c =
    part_refused (c.args.place + 128 * c.args.i) (places c.part_of.result.now) (part_of c.args.i (places c.args.b.now)) c.decode_part.result c.part_of.ensures c.decode_part.ensures.fault
