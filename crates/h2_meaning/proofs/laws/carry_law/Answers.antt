use Rattle.h2_meaning.specs.Forest.{InTable}
use Rattle.h2_inode.specs.CarryLaws.{contents_carried, directory_carried, pfs_list_carried}
use Rattle.h2_meaning.specs.CarryLaws.{table_carried, forest_carried}
use Rattle.h2_meaning.proofs.laws.carry_law.Goals as goal

pub returns : goal.returns
returns g c = record {
  contents = λ f. contents_carried g.C.Change.passage f;
  directories = λ f table. directory_carried g.C.Change.passage f (InTable table) (InTable table) (λ target number x. x);
  tables = λ f. table_carried g.C.Change.passage f;
  pfs_lists = λ f. pfs_list_carried g.C.Change.passage f;
  forests = λ f. forest_carried g.C.Change.passage f;
}
