use Rattle.std.proofs.Common.{arith, refl, sym, subst, inl}
use Rattle.h2_set.specs.RefSet.{RefSet, IsRefSet}
use Rattle.h2_memory_sets.proofs.planting.set_of.Goals as goal

pub returns-in-Bytes-clause-set : goal.returns-in-Bytes-clause-set
returns-in-Bytes-clause-set c = subst (λ (s : RefSet). IsRefSet s) (sym c.new.ensures) (record { rising = omega arith; fits = omega arith; known = inl refl })
