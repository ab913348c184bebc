use Rattle.std.proofs.Common.{ap, ◌∙◌}
use Rattle.h2_num.specs.Places.{places}
use Rattle.h2_inode.proofs.SetLemmas.{behind}
use Rattle.h2_inode.proofs.contents.contents_of.Goals as goal

pub returns-clause-bytes : goal.returns-clause-bytes
returns-clause-bytes c = ap places c.split_at.ensures.back ∙ behind c.args.b.now 512
