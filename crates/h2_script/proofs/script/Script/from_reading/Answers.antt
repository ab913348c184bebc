use Rattle.std.proofs.Common.{◌∙◌, ap, sym, map}
use Rattle.h2_script.proofs.ReadSoFar.{mapped_end}
use Rattle.h2_script.proofs.script.Script.from_reading.Goals as goal

pub returns : goal.returns
returns c = λ lines is. ap (map (λ phase. phase.items)) c.in_ok-push.ensures.items ∙ mapped_end (λ phase. phase.items) c.args.reading.ended.items c.args.reading.open ∙ sym is.phases
