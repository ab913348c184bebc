use Rattle.std.proofs.Common.{subst, ◌∙◌}
use Rattle.h2_tree.specs.Changes.{Inserts}
use Rattle.h2_memory_sets.specs.Seen.{forest_of}
use Rattle.h2_node_rows.specs.SuperRootLaws.{none_named}
use Rattle.h2_node_rows.specs.SuperRootLaws.{inserted, brought}
use Rattle.h2_dir_rows.proofs.tests.making.add_inode.Goals as goal

pub plant-requires-clause-leaf : goal.plant-requires-clause-leaf
plant-requires-clause-leaf c =
    let ins = c.in_ok-insert.ensures.ok in
    record { stands = ins.place.stands; root = ins.place.root ∙ c.requires.tree.root; kind = c.requires.leaf.kind; path = c.in_ok-insert.ensures.path }

pub plant-requires-clause-unloaded : goal.plant-requires-clause-unloaded
plant-requires-clause-unloaded c = none_named _ _ _ (c.tree_law.ensures.fresh _ _ _ _ c.requires.tree.stands (subst (λ o. Inserts (forest_of c.args.nodes.now) (forest_of c.insert.new.n) c.args.at.0 c.args.leaf o) c.in-None.is c.in_ok-insert.ensures.ok))

pub returns-clause-top : goal.returns-clause-top
returns-clause-top c = brought _ _ _ _ (inserted _ _ _ _ _ _ c.requires.top c.in_ok-insert.ensures.ok) c.plant.ensures.plants.brings
