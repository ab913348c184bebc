use Rattle.h2_freeleaf.specs.NodeLaws.{node_spelling, node_one, NodeBytes-same}
use Rattle.h2_freeleaf.proofs.laws.node_law.Goals as goal

pub returns : goal.returns
returns c = record { one_spelling = node_spelling; one_value = node_one; local = NodeBytes-same }
