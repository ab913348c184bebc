use Rattle.h2_node_rows.proofs.Kept.{fresh}
use Rattle.h2_node_rows.specs.SuperRootLaws.{readied}
use Rattle.h2_node_rows.proofs.super_roots.super_root.Goals as goal

pub returns : goal.returns
returns c = readied _ _ _ (fresh _ _ _ c.new-nodes.ensures.sound c.new-nodes.ensures.empty c.in_ok-root.ensures.added) c.ready.ensures.same
