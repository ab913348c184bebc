use Rattle.h2_num.specs.Places.{places}
use Rattle.h2_freeleaf.specs.Leaf.{part_of}
use Rattle.h2_freeleaf.proofs.Nodes.{found_same, none_same}
use Rattle.h2_freeleaf.proofs.node.ref_at.Goals as goal

pub returns-clause-found : goal.returns-clause-found
returns-clause-found c = found_same c.decode.result c.ok.result (places c.part_of.result.now) (part_of c.args.i (places c.args.b.now)) c.ok.ensures.value c.part_of.ensures c.decode.ensures.found

pub returns-clause-none : goal.returns-clause-none
returns-clause-none c = none_same c.decode.result c.ok.result (places c.part_of.result.now) (part_of c.args.i (places c.args.b.now)) c.ok.ensures.value c.part_of.ensures c.decode.ensures.none
