use Rattle.std.proofs.Common.{rules}
use Rattle.h2_file_rows.proofs.Topped.{found_leaf}
use Rattle.h2_file_rows.proofs.tests.files.Files.open.Goals as goal

pub seek-requires-clause-leaf : goal.seek-requires-clause-leaf
seek-requires-clause-leaf c = found_leaf _ _ c.args.number _ c.leaf_at.ensures.top (search rules) (search rules) (search rules)
