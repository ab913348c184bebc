use Rattle.std.proofs.Common.{arith, ◌^◌, pow_mono}
use Rattle.std.proofs.lemmas.Nat.{pow_below}
use Rattle.h2_inode.proofs.Arrangements.{shift_is, lies_by_size, lies_longer}
use Rattle.h2_inode.proofs.arrangement.lies_within.Goals as goal

pub returns-then-s-r-2 : goal.returns-then-s-r-2
returns-then-s-r-2 c = lies_longer c.args.r.now.key c.args.s.now.key (2 ^ c.args.r.now.keybits) (2 ^ c.args.s.now.keybits) c.if-s-r.false (pow_below _ _ c.if-s-r-2.true)

pub overflow_sub-result-2 : goal.overflow_sub-result-2
overflow_sub-result-2 c = rw (shift_is c.args.r.now.keybits c.requires, shift_is c.args.s.now.keybits (omega (arith, c.if-s-r-2.false, c.requires))) (pow_mono c.if-s-r-2.false)

pub returns : goal.returns
returns c = rw (shift_is c.args.r.now.keybits c.requires, shift_is c.args.s.now.keybits (omega (arith, c.if-s-r-2.false, c.requires))) (lies_by_size c.args.r.now.key c.args.s.now.key (2 ^ c.args.r.now.keybits) (2 ^ c.args.s.now.keybits) c.if-s-r.false (pow_mono c.if-s-r-2.false))
