use Rattle.h2_freeleaf.specs.FaultLaws.{leaf_fault-none, leaf_one_fault, node_fault-none, node_one_fault}
use Rattle.h2_freeleaf.specs.LeastPlace.{leaf_fault-least, node_fault-least}
use Rattle.h2_freeleaf.proofs.laws.refusal_law.Goals as goal

pub returns : goal.returns
returns c = record {
  no_leaf = leaf_fault-none;
  one_of_leaf = leaf_one_fault;
  no_node = node_fault-none;
  one_of_node = node_one_fault;
  least_of_leaf = leaf_fault-least;
  least_of_node = node_fault-least;
}
