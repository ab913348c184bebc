use Rattle.std.proofs.Common.{◌∙◌, sym, ap}
use Rattle.std.specs.Prelude.{not}
use Rattle.h2_memory_sets.specs.View.{names_same}
use Rattle.h2_memory_sets.proofs.Passing.{any_some}
use Rattle.h2_memory_sets.proofs.dropping.stands_at.Goals as goal

pub returns : goal.returns
returns c = λ yes. ap not (any_some (names_same c.args.q.now) _ _ _ c.at.ensures (sym c.names_same.ensures ∙ yes))
