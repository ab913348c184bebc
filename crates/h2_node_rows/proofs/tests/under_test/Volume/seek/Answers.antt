use Rattle.h2_node_rows.proofs.Kept.{brought, unchanged}
use Rattle.h2_node_rows.proofs.tests.under_test.Volume.seek.Goals as goal

pub returns-in_err-at : goal.returns-in_err-at
returns-in_err-at c = unchanged _ _ _ _ c.requires c.in_err-at.ensures.same

pub returns : goal.returns
returns c = let seeks = c.in_ok-at.ensures.ok in brought _ _ _ _ _ c.requires seeks.brings
