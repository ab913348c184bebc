use Rattle.h2_tree_rows.proofs.Rooted.{removed}
use Rattle.h2_tree_rows.proofs.tests.under_test.Tree.remove.Goals as goal

pub returns : goal.returns
returns c = removed _ _ c.args.self.now.root.0 _ _ c.remove.result c.remove.ensures.removes c.remove.ensures.absent c.remove.ensures.walks c.requires

pub remove-requires-clause-free : goal.remove-requires-clause-free
remove-requires-clause-free c = λ m st b. c.requires.free m
