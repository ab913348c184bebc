use Rattle.std.proofs.Common.{arith}
use Rattle.h2_script.proofs.Payloads.{plain_too_many}
use Rattle.h2_script.proofs.payload.read_plain.Goals as goal

pub returns-then-len-gt-DATA_BYTES : goal.returns-then-len-gt-DATA_BYTES
returns-then-len-gt-DATA_BYTES c = plain_too_many c.args.digits.now c.in-Ok.bytes.items (rw c.as_bytes.ensures.value at c.in-Ok.ensures.ok) (omega (arith, c.in-Ok.bytes.ok.0))
