use Rattle.h2_codes.proofs.Bits.{swept_word}
use Rattle.h2_codes.proofs.word.sweep.Goals as goal

pub returns : goal.returns
returns c = swept_word c.args.word c.args.seen
