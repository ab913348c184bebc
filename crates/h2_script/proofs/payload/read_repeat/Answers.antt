use Rattle.std.proofs.Common.{subst, arith}
use Rattle.h2_script.specs.Numbers.{IsAmount}
use Rattle.h2_script.proofs.Payloads.{uncut_no_repeat, no_count_no_repeat, no_byte_no_repeat, too_many}
use Rattle.h2_script.proofs.payload.read_repeat.Goals as goal

pub returns-in_default : goal.returns-in_default
returns-in_default c = uncut_no_repeat c.args.text.now c.in_default.ensures

pub returns-in_default-read_amount : goal.returns-in_default-read_amount
returns-in_default-read_amount c = no_count_no_repeat c.args.text.now _ _ c.in-Some.ensures c.in_default-read_amount.ensures

pub returns-in_default-read_byte : goal.returns-in_default-read_byte
returns-in_default-read_byte c = no_byte_no_repeat c.args.text.now _ _ c.in-Some.ensures c.in_default-read_byte.ensures

pub returns-in-Many : goal.returns-in-Many
returns-in-Many c = too_many c.args.text.now _ _ c.in-Some-read_byte.byte c.in-Some.ensures (subst (IsAmount c.in-Some.count.now) c.in-Many.is c.in-Some-read_amount.ensures) c.in-Some-read_byte.ensures (omega arith)
