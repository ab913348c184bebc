use Rattle.h2_num.specs.Places.{places}
use Rattle.h2_freeleaf.specs.LeafLaws.{HoldCodes-same}
use Rattle.h2_freeleaf.proofs.Parts.{front_same}
use Rattle.h2_freeleaf.proofs.leaf.codes_of.Goals as goal

pub returns-clause-codes : goal.returns-clause-codes
returns-clause-codes c = HoldCodes-same c.from_bytes.result (places c.in-Some.codes.now) (places c.args.b.now) (front_same c.args.b.now c.in-Some.codes.now 64 c.in-Some.ensures.cases) c.from_bytes.ensures.value
