use Rattle.std.proofs.Common.{◌∙◌, ap, map, arith}
use Rattle.std.proofs.lemmas.Bool.Decides.{nat_tests}
use Rattle.h2_script.proofs.Joined.{read_parts}
use Rattle.h2_script.proofs.names.read_names.Goals as goal

pub returns : goal.returns
returns c = read_parts c.args.text.now _ c.copy_names.result (let is = c.is_empty.ensures in let no = c.if-is_empty.false in grind (arith, nat_tests)) (ap (map (λ part. part.now)) c.deref.ensures.value ∙ c.in_ok-parts.ensures) c.copy_names.ensures
