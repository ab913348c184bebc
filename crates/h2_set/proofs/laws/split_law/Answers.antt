use Rattle.h2_set.specs.SplitLaws.{split_inside, split_fewer, split_sides, split_shorter, split_two, split_few}
use Rattle.h2_set.proofs.laws.split_law.Goals as goal

pub returns : goal.returns
returns c = record {
  inside = λ rs low high key bits k b rising aligned three split all. split_inside rs low high rising aligned key bits three split k b all;
  fewer = λ rs low high key bits k b rising aligned three split all. split_fewer rs low high rising aligned key bits three split k b all;
  sides = λ rs low high key bits rising aligned three split. split_sides rs low high rising aligned key bits three split;
  shorter = λ rs low high key bits rising aligned three split. split_shorter rs low high rising aligned key bits three split;
  two = λ rs low high key bits rising aligned three split. split_two rs low high rising aligned key bits three split;
  few = λ rs low high key bits rising aligned three split. split_few rs low high rising aligned key bits three split;
}
