use Rattle.std.proofs.Common.{subst}
use Rattle.h2_dir.specs.Changing.{HasBlockIfLong}
use Rattle.h2_dir_rows.proofs.tests.changing.is_valid.Goals as goal

pub entry_ref-requires-clause-short : goal.entry_ref-requires-clause-short
entry_ref-requires-clause-short c none = subst (λ b. HasBlockIfLong c.args.name.now b) none c.requires.block
