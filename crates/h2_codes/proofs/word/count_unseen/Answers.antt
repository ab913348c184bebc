use Rattle.std.proofs.Common.{◌*◌, bit_and, arith, w64}
use Rattle.std.specs.Int.{bit_at, bit_not}
use Rattle.std.proofs.lemmas.Nat.{and_le_l}
use Rattle.h2_codes.specs.Bulkfree.{tally_unseen}
use Rattle.h2_codes.specs.Packed.{word_code, flag_of}
use Rattle.h2_codes.proofs.Bits.{ones_marks, marks_unseen}
use Rattle.h2_codes.proofs.word.count_unseen.Goals as goal

pub returns : goal.returns
returns c =
    let le = and_le_l c.marks.result (bit_not w64 c.args.seen) in
    let fits = c.marks.type_inv in
    ones_marks (λ k. tally_unseen c.args.code (word_code c.args.word k) (flag_of (bit_at c.args.seen (2 * k)))) (bit_and c.marks.result (bit_not w64 c.args.seen)) (marks_unseen c.args.code c.args.word c.marks.result c.args.seen c.ranges.seen.fits c.marks.ensures) (omega (arith, le, fits))
