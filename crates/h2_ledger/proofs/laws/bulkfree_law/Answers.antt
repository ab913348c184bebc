use Rattle.h2_ledger.specs.FreedLaws.{unmarked_lapses, leaves_free, runs_leave_free}
use Rattle.h2_ledger.proofs.laws.bulkfree_law.Goals as goal

pub returns : goal.returns
returns g c = record {
  lapses = unmarked_lapses g.S.BlockSet.has;
  leaves = leaves_free g.S.BlockSet.has;
  runs_leave = runs_leave_free g.S.BlockSet.has;
}
