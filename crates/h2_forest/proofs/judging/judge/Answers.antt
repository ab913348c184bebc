use Rattle.h2_forest.proofs.Replays.{same_decides}
use Rattle.h2_forest.proofs.judging.judge.Goals as goal

pub returns-clause-replies : goal.returns-clause-replies
returns-clause-replies c = same_decides c.in_ok-told.told c.args.first c.args.history.now.items c.is_same.result c.is_same.ensures c.in_ok-told.ensures
