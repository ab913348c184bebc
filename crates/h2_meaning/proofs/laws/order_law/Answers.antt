use Rattle.h2_meaning.specs.Forest.{InTable}
use Rattle.h2_inode.specs.OrderLaws.{listed_ids_ascend}
use Rattle.h2_meaning.specs.OrderLaws.{numbers_ascend, ids_ascend}
use Rattle.h2_meaning.proofs.laws.order_law.Goals as goal

pub returns : goal.returns
returns g c = record { numbers = λ table. numbers_ascend g.R.Reading.access (InTable table); listed_ids = listed_ids_ascend g.R.Reading.access; ids = ids_ascend g.R.Reading.access }
