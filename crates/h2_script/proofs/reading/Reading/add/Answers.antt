use Rattle.std.proofs.Common.{refl}
use Rattle.h2_script.specs.Scripts.{commands_of}
use Rattle.h2_script.proofs.ReadSoFar.{call_read}
use Rattle.h2_script.proofs.reading.Reading.add.Goals as goal

pub with-requires : goal.with-requires
with-requires c = (commands_of c.requires.0, c.requires.1.counted)

pub returns-in_default : goal.returns-in_default
returns-in_default c = (refl, λ lines is. c.in_default.ensures (commands_of lines) is.counted)

pub returns : goal.returns
returns c = λ lines is. call_read lines c.args.self.now c.args.client c.args.command c.push.new.self c.in-Some.counts c.in_ok-push.ensures.items (c.in-Some.ensures (commands_of lines) is.counted) is
