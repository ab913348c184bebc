use Rattle.std.proofs.Common.{◌≡◌, ◌<◌, ◌≤◌, ◌+◌, ◌*◌, take, ap, ◌∙◌, subst, arith, length, Bool, List}
use Rattle.h2_codes.specs.Seen.{count_in, has_chunk}
use Rattle.h2_codes.specs.Packed.{flag_bit}
use Rattle.h2_codes.proofs.Bits.{ones_marks}
use Rattle.h2_codes.proofs.Counts.{count_in-more, flags_step_le, flags_all}
use Rattle.h2_codes.proofs.Lookup.{flags_length}
use Rattle.h2_codes.proofs.seen.Seen.count.Goals as goal

pub overflow_add-n : goal.overflow_add-n
overflow_add-n c =
    let lt : c.loop-j.j < 8 = c.loop-j-test.true in
    let bound : c.loop-j.n ≤ 32 * c.loop-j.j = c.loop-j.invariant.bound in
    let ones = ones_marks (λ k. flag_bit (has_chunk c.args.self.now (32 * c.loop-j.j + k))) c.word.result c.word.ensures.marks c.word.type_inv in
    let most = flags_step_le c.args.self.now (32 * c.loop-j.j) in
    omega (arith, ones, most)

pub loop-j-preserved : goal.loop-j-preserved
loop-j-preserved c =
    let lt : c.loop-j.j < 8 = c.loop-j-test.true in
    let size : length c.args.self.now ≡ 256 = c.word.ensures.chunks in
    let counted : c.loop-j.n ≡ count_in (take (32 * c.loop-j.j) c.args.self.now) = c.loop-j.invariant.counted in
    let bound : c.loop-j.n ≤ 32 * c.loop-j.j = c.loop-j.invariant.bound in
    let ones = ones_marks (λ k. flag_bit (has_chunk c.args.self.now (32 * c.loop-j.j + k))) c.word.result c.word.ensures.marks c.word.type_inv in
    let most = flags_step_le c.args.self.now (32 * c.loop-j.j) in
    let more = count_in-more c.args.self.now (32 * c.loop-j.j) 32 (omega arith) in
    let next : 32 * (c.loop-j.j + 1) ≡ 32 * c.loop-j.j + 32 = omega arith in
    record { counted = rw next (omega (arith, ones, more, counted)); bound = omega (arith, ones, most) }

pub returns-clause-value : goal.returns-clause-value
returns-clause-value c =
    let le : 8 ≤ c.loop-j.j = c.loop-j-test.false in
    let size : length c.args.self.now ≡ 256 = subst (λ (flags : List Bool). length flags ≡ 256) c.self.view_is (flags_length c.self.inside.flags c.self.invariant.0) in
    c.loop-j.invariant.counted ∙ ap count_in (flags_all c.args.self.now (32 * c.loop-j.j) (omega arith))
