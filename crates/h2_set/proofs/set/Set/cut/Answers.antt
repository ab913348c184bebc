use Rattle.h2_set.specs.EditLaws.{set_cut, read_at}
use Rattle.h2_set.proofs.set.Set.cut.Goals as goal

pub invariant_of-self : goal.invariant_of-self
invariant_of-self c = rw c.remove.ensures.items (set_cut (record { refs = c.self.inside.refs.items; capacity = c.self.inside.capacity }) c.args.i c.self.invariant (rw (← c.self.view_is) at c.requires))

pub returns-clause-old : goal.returns-clause-old
returns-clause-old c = rw (← c.self.view_is) (read_at c.self.inside.refs.items c.args.i c.remove.result (rw (← c.self.view_is) at c.requires) c.remove.ensures.value)
