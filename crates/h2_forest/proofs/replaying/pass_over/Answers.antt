use Rattle.std.proofs.Common.{sym, subst}
use Rattle.std.specs.Prelude.{◌↔◌, IsTrue, IfOk}
use Rattle.h2_forest.specs.History.{IsRight}
use Rattle.h2_forest.proofs.replaying.pass_over.Goals as goal

pub returns-in-Call-clause-right : goal.returns-in-Call-clause-right
returns-in-Call-clause-right c = subst (λ x. IfOk c.enter.result (λ right. IsTrue right ↔ IsRight c.args.forest.now x)) (sym c.in-Call.is) c.enter.ensures.right
