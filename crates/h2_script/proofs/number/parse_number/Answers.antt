use Rattle.std.proofs.Common.{refl}
use Rattle.h2_script.proofs.Numerals.{refused_is_large}
use Rattle.h2_script.proofs.number.parse_number.Goals as goal

pub returns-in-Err : goal.returns-in-Err
returns-in-Err c = refused_is_large c.in-Err.field-0 c.args.word.now (rw c.as_bytes.ensures.value at (c.if-not-is_numeral.ensures.0 refl)) c.in-Err.ensures.value.0
