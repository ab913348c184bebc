use Rattle.std.proofs.Common.{arith, ap, sym, ◌∙◌, length}
use Rattle.h2_set.proofs.Filtered.{room_left, front_fits}
use Rattle.h2_set.proofs.split.lying_in.Goals as goal

pub push-requires : goal.push-requires
push-requires c = let room = room_left _ c.args.all.now c.loop-r.r-index 32 _ c.loop-r-test.true c.requires.few (sym c.lies_in.ensures ∙ c.if-lies_in.true) in (omega arith, omega (arith, room, ap length c.loop-r.invariant))

pub returns-clause-fits : goal.returns-clause-fits
returns-clause-fits c = let fits = front_fits _ c.args.all.now c.loop-r.r-index 32 c.requires.few in omega (arith, fits, ap length c.loop-r.invariant)
