use Rattle.h2_script.proofs.ReadSoFar.{end_read}
use Rattle.std.proofs.Common.{◌∙◌, ap}
use Rattle.h2_script.proofs.reading.Reading.end_phase.Goals as goal

pub returns : goal.returns
returns c = λ lines is. end_read lines c.args.self.now c.push.new.self c.replace-open.new.dest c.replace-open.result c.replace-open.ensures.value c.in_ok-push.ensures.items (ap (λ v. v.items) c.replace-open.ensures.after ∙ c.new.ensures.items) is
