use Rattle.h2_set.specs.HeldTest.{held-decided}
use Rattle.h2_set.proofs.held.is_held.Goals as goal

pub returns-clause-test : goal.returns-clause-test
returns-clause-test c = held-decided c.args.r.now c.is_valid_and_named.result c.is_valid_and_named.ensures
