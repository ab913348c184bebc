use Rattle.h2_ledger.specs.SoundLaws.{keeps_sound, takes_apart}
use Rattle.h2_ledger.specs.RunLaws.{opens_sound, runs_sound}
use Rattle.h2_ledger.specs.GrantLaws.{grants_apart, event_takes_apart, event_takes_distinct}
use Rattle.h2_ledger.specs.ReservedLaws.{reserved_stays}
use Rattle.h2_ledger.specs.SinceLaws.{takes_since_apart}
use Rattle.h2_ledger.specs.UnwrittenLaws.{opens_apart, keeps_apart, runs_apart}
use Rattle.h2_ledger.proofs.laws.space_law.Goals as goal

pub returns : goal.returns
returns g c = record {
  opens = opens_sound g.S.BlockSet.has;
  keeps = keeps_sound g.S.BlockSet.has;
  runs = runs_sound g.S.BlockSet.has;
  reserved = reserved_stays g.S.BlockSet.has;
  takes = takes_apart g.S.BlockSet.has;
  grants = grants_apart g.S.BlockSet.has;
  event = event_takes_apart g.S.BlockSet.has;
  distinct = event_takes_distinct g.S.BlockSet.has;
  since = takes_since_apart g.S.BlockSet.has;
  opens_apart = opens_apart g.S.BlockSet.has;
  keeps_apart = keeps_apart g.S.BlockSet.has;
  runs_apart = runs_apart g.S.BlockSet.has;
}
