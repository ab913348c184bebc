use Rattle.std.proofs.Common.{arith, Some, subst}
use Rattle.std.proofs.lemmas.Option.{slice_get_within}
use Rattle.h2_ref.specs.declared.reference.Ref.{Ref}
use Rattle.h2_memory_sets.specs.View.{FitsBelow, range_of}
use Rattle.h2_memory_sets.proofs.Fitting.{one_more}
use Rattle.h2_memory_sets.proofs.seeking.all_fit_in.Goals as goal

pub loop-i-preserved : goal.loop-i-preserved
loop-i-preserved c = one_more (FitsBelow (range_of c.args.x.now) (Some c.args.x.now)) _ _ c.loop-i.invariant _ c.at.ensures (subst (λ (t : Ref). FitsBelow t (Some c.args.x.now) c.at.result.now) c.range_of-top.ensures (c.fits_below.ensures.fits c.if-not-fits_below.false))

pub returns-clause-fits : goal.returns-clause-fits
returns-clause-fits c = λ _ j r read. c.loop-i.invariant j r (let lt = slice_get_within _ j r read in let n = c.len-i-end.ensures.len in let past = c.loop-i-test.false in omega (arith, lt, n, past)) read
