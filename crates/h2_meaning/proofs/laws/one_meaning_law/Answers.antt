use Rattle.h2_meaning.specs.Forest.{InTable}
use Rattle.h2_inode.specs.SingleLaws.{contents_one, directory_one, pfs_list_one}
use Rattle.h2_meaning.specs.SingleLaws.{table_one, forest_one}
use Rattle.h2_meaning.proofs.laws.one_meaning_law.Goals as goal

pub returns : goal.returns
returns g c = record {
  contents = λ one. contents_one g.R.Reading.access one;
  directory = λ one s u. directory_one g.R.Reading.access one (InTable s) (InTable u);
  table = λ one. table_one g.R.Reading.access one;
  pfs_list = λ one. pfs_list_one g.R.Reading.access one;
  forest = λ one. forest_one g.R.Reading.access one;
}
