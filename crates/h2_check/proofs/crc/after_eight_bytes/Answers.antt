use Rattle.std.proofs.Common.{◌<◌, ◌^◌, sym, arith, bit_xor}
use Rattle.std.proofs.lemmas.Nat.{xor_lt}
use Rattle.h2_check.proofs.Slicing.{halves_apart}
use Rattle.h2_check.proofs.crc.after_eight_bytes.Goals as goal

pub overflow_cast-bits-2 : goal.overflow_cast-bits-2
overflow_cast-bits-2 c =
    let fits : bit_xor c.args.register c.args.bytes < 2 ^ 64 = xor_lt 64 c.args.register c.args.bytes (omega arith) (omega arith) in
    omega arith

pub returns : goal.returns
returns c = rw (c.after_word.ensures, c.after_word-2.ensures) (sym (halves_apart (bit_xor c.args.register c.args.bytes)))
