use Rattle.std.proofs.Common.{arith, ap, length}
use Rattle.h2_set.proofs.set.Set.split.Goals as goal

pub invariant_of-self : goal.invariant_of-self
invariant_of-self c = record {
  rising = c.parts_of-parts.ensures.outer_rising;
  fits = omega (arith, c.parts_of-parts.ensures.outer_few, ap length c.deref.ensures.0, c.self.invariant.fits);
  known = c.self.invariant.known;
}
