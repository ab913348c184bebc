use Rattle.h2_codes.specs.Codes.{tally}
use Rattle.h2_codes.specs.Packed.{word_code}
use Rattle.h2_codes.proofs.Bits.{ones_marks}
use Rattle.h2_codes.proofs.word.count.Goals as goal

pub returns : goal.returns
returns c = ones_marks (λ k. tally c.args.code (word_code c.args.word k)) c.marks.result c.marks.ensures c.marks.type_inv
