use Rattle.std.proofs.Common.{◌∙◌, ◌/◌, ap, sym, arith, bit_xor}
use Rattle.h2_check.proofs.Slicing.{one_apart}
use Rattle.h2_check.proofs.crc.after_byte.Goals as goal

pub returns : goal.returns
returns c = ap (λ x. bit_xor x (c.args.register / 256)) c.entry.ensures ∙ sym (one_apart c.args.register c.args.byte (omega arith))
