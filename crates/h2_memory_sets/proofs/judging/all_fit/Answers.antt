use Rattle.std.proofs.Common.{arith, Some}
use Rattle.std.proofs.lemmas.Option.{slice_get_within}
use Rattle.h2_memory_sets.specs.View.{FitsBelow}
use Rattle.h2_memory_sets.proofs.Fitting.{one_more}
use Rattle.h2_memory_sets.proofs.judging.all_fit.Goals as goal

pub loop-i-preserved : goal.loop-i-preserved
loop-i-preserved c = one_more (FitsBelow c.args.top.now (Some c.args.root.now)) _ _ c.loop-i.invariant _ c.at.ensures (c.fits_below.ensures.fits c.if-not-fits_below.false)

pub returns-clause-fits : goal.returns-clause-fits
returns-clause-fits c = λ _. record {
  set = c.len-i-end.ensures.set;
  capacity = c.has_room.ensures.0 c.if-not-has_room.false;
  some = c.has_some.ensures.0 c.if-not-has_some.false;
  each = λ j r read. c.loop-i.invariant j r (let lt = slice_get_within _ j r read in let n = c.len-i-end.ensures.len in let past = c.loop-i-test.false in omega (arith, lt, n, past)) read;
}
