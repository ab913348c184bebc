use Rattle.std.proofs.Common.{ap, sym, ◌∙◌}
use Rattle.h2_num.specs.Names.{names_eq, names_same, names_self}
use Rattle.h2_command.proofs.same.same_names.Goals as goal

pub returns : goal.returns
returns c = (λ h. names_same c.args.a.now c.args.b.now (sym c.eq.ensures ∙ h), λ h. c.eq.ensures ∙ ap (λ x. names_eq x c.args.b.now) h ∙ names_self c.args.b.now)
