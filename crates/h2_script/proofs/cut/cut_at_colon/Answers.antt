use Rattle.h2_script.proofs.Cuts.{cut_or_none}
use Rattle.h2_script.proofs.cut.cut_at_colon.Goals as goal

pub returns : goal.returns
returns c = cut_or_none c.args.word.now c.split_once.result c.split_once.ensures.cases
