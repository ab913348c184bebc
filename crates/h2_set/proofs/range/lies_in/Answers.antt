use Rattle.std.proofs.Common.{arith, ◌^◌, pow_mono}
use Rattle.h2_set.proofs.Least.{shift_is, lies_by_size, lies_longer}
use Rattle.std.proofs.lemmas.Nat.{pow_below}
use Rattle.h2_set.proofs.range.lies_in.Goals as goal

pub returns-then-r-bits : goal.returns-then-r-bits
returns-then-r-bits c = lies_longer c.args.key c.args.r.now.key (2 ^ c.args.bits) (2 ^ c.args.r.now.keybits) c.if-r-key.false (pow_below _ _ c.if-r-bits.true)

pub overflow_sub-result-2 : goal.overflow_sub-result-2
overflow_sub-result-2 c = rw (shift_is c.args.bits c.requires, shift_is c.args.r.now.keybits (omega (arith, c.if-r-bits.false, c.requires))) (pow_mono c.if-r-bits.false)

pub returns : goal.returns
returns c = rw (shift_is c.args.bits c.requires, shift_is c.args.r.now.keybits (omega (arith, c.if-r-bits.false, c.requires))) (lies_by_size c.args.key c.args.r.now.key (2 ^ c.args.bits) (2 ^ c.args.r.now.keybits) c.if-r-key.false (pow_mono c.if-r-bits.false))
