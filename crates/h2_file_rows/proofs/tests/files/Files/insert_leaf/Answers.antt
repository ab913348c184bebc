use Rattle.h2_file_rows.proofs.Topped.{inserted_or_not, inserted_leaf, inserted_new}
use Rattle.h2_file_rows.proofs.tests.files.Files.insert_leaf.Goals as goal

pub returns-clause-top : goal.returns-clause-top
returns-clause-top c = inserted_or_not _ _ _ _ _ c.requires.top c.insert.ensures.ok c.insert.ensures.walks

pub returns-clause-leaf : goal.returns-clause-leaf
returns-clause-leaf c = inserted_leaf _ _ _ _ _ c.requires.top c.requires.leaf.kind c.insert.ensures.ok c.insert.ensures.path

pub returns-clause-unloaded : goal.returns-clause-unloaded
returns-clause-unloaded c = inserted_new _ _ _ _ _ (c.tree_law.ensures.fresh _ _ _ _ c.requires.top.super_root.stands) c.insert.ensures.ok
