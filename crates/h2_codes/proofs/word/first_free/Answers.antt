use Rattle.std.proofs.Common.{rules}
use Rattle.h2_codes.proofs.Bits.{none_free, first_free}
use Rattle.h2_codes.proofs.word.first_free.Goals as goal

pub returns-then-free-eq0 : goal.returns-then-free-eq0
returns-then-free-eq0 c = none_free c.args.word c.marks.result c.args.from c.marks.type_inv c.marks.ensures c.if-free-eq0.true

pub returns : goal.returns
returns c = first_free c.args.word c.marks.result c.args.from c.marks.type_inv c.marks.ensures (search rules)
