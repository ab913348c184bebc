use Rattle.std.proofs.Common.{◌∙◌, arith}
use Rattle.std.proofs.lemmas.List.{take_all}
use Rattle.h2_inode.proofs.judging.small_block.Goals as goal

pub returns : goal.returns
returns c = c.in-Some.ensures.cases.0 ∙ take_all 1024 c.args.b.now (omega arith)
