use Rattle.std.proofs.Common.{◌-◌, ◌*◌, arith}
use Rattle.h2_freeleaf.proofs.Parts.{part_same}
use Rattle.h2_freeleaf.proofs.part.part_of.Goals as goal

pub returns : goal.returns
returns c = part_same c.args.b.now c.in-Some.part.now c.args.i (1024 - 128 * c.args.i) (omega arith) c.in-Some.ensures.cases
