use Rattle.h2_meaning.specs.Forest.{InTable}
use Rattle.h2_inode.specs.FoundLaws.{entry_of_leaf, leaf_of_entry}
use Rattle.h2_meaning.specs.FoundLaws.{node_of_leaf, leaf_of_node}
use Rattle.h2_meaning.proofs.laws.leaf_law.Goals as goal

pub returns : goal.returns
returns g c = record {
  leaves_of_directory = λ table. entry_of_leaf g.R.Reading.access (InTable table);
  entries = λ table. leaf_of_entry g.R.Reading.access (InTable table);
  leaves_of_table = node_of_leaf g.R.Reading.access;
  nodes = leaf_of_node g.R.Reading.access;
}
