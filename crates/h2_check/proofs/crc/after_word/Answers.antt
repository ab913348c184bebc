use Rattle.std.proofs.Common.{sym, arith}
use Rattle.h2_check.proofs.Slicing.{four_apart}
use Rattle.h2_check.proofs.crc.after_word.Goals as goal

pub returns : goal.returns
returns c =
    rw (c.entry.ensures, c.entry-2.ensures, c.entry-3.ensures, c.entry-4.ensures, c.to_le_bytes.ensures) (sym (four_apart c.args.word c.args.row (omega arith)))
