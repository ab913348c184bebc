use Rattle.std.proofs.Common.{rules, ◌<◌, ◌≤◌, ◌*◌, ap, ◌∙◌, arith}
use Rattle.h2_codes.specs.Codes.{count_of}
use Rattle.h2_codes.specs.Packed.{AllBytes, codes_in}
use Rattle.h2_codes.proofs.Counts.{take-all}
use Rattle.h2_codes.proofs.Lookup.{segment_length}
use Rattle.h2_codes.proofs.Segments.{count_step, count_step_le}
use Rattle.h2_codes.proofs.segment.count_codes.Goals as goal

pub overflow_add-n : goal.overflow_add-n
overflow_add-n c =
    let lt : c.loop-j.j < 8 = c.loop-j-test.true in
    let bound : c.loop-j.n ≤ 32 * c.loop-j.j = c.loop-j.invariant.bound in
    let more = count_step_le c.args.code c.get_word.result in
    let e = c.count-n.ensures in
    omega (arith, more, e)

pub loop-j-preserved : goal.loop-j-preserved
loop-j-preserved c =
    let bound : c.loop-j.n ≤ 32 * c.loop-j.j = c.loop-j.invariant.bound in
    let more = count_step_le c.args.code c.get_word.result in
    let e = c.count-n.ensures in
    let bytes : AllBytes c.args.bytes.now = c.fits-bytes in
    record {
      counted = count_step c.args.bytes.now c.args.code c.loop-j.j c.get_word.result c.loop-j.n c.count-n.result bytes c.told-bytes c.loop-j-test.true c.get_word.ensures c.count-n.ensures c.loop-j.invariant.counted;
      bound = omega (arith, more, e);
    }

pub returns : goal.returns
returns c =
    let le : 8 ≤ c.loop-j.j = search rules in
    let size = segment_length c.args.bytes.now c.told-bytes in
    c.loop-j.invariant.counted ∙ ap (count_of c.args.code) (take-all (codes_in c.args.bytes.now) (32 * c.loop-j.j) (omega (arith, size)))
