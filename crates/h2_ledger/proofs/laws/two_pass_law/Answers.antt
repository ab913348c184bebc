use Rattle.h2_ledger.specs.FreedLaws.{frees_twice_unmarked}
use Rattle.h2_ledger.specs.PassLaws.{applies_all_or_runs, frees_after_two_passes}
use Rattle.h2_ledger.specs.SinceLaws.{applies_once}
use Rattle.h2_ledger.proofs.laws.two_pass_law.Goals as goal

pub returns : goal.returns
returns g c = record {
  all_or_runs = applies_all_or_runs g.S.BlockSet.has;
  once = applies_once g.S.BlockSet.has;
  twice = frees_twice_unmarked g.S.BlockSet.has;
  two_passes = frees_after_two_passes g.S.BlockSet.has;
}
