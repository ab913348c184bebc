use Rattle.std.proofs.Common.{subst}
use Rattle.h2_tree.specs.Changes.{Inserts}
use Rattle.h2_memory_sets.specs.Seen.{forest_of}
use Rattle.h2_node_rows.specs.SuperRootLaws.{none_named}
use Rattle.h2_node_rows.proofs.Kept.{leafed}
use Rattle.h2_node_rows.proofs.tests.under_test.with_leaf.Goals as goal

pub returns-clause-volume : goal.returns-clause-volume
returns-clause-volume c = leafed _ _ _ _ _ c.requires.empty c.requires.leaf c.in_ok-insert.ensures.ok c.in_ok-insert.ensures.path

pub returns-clause-unloaded : goal.returns-clause-unloaded
returns-clause-unloaded c = none_named _ _ _ (c.tree_law.ensures.fresh _ _ _ _ c.requires.empty.super_root.stands (subst (λ o. Inserts (forest_of c.args.nodes) (forest_of c.insert.new.n) c.args.root.0 c.args.leaf o) c.in-None.is c.in_ok-insert.ensures.ok))
