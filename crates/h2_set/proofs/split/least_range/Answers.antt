use Rattle.std.proofs.Common.{arith}
use Rattle.h2_set.proofs.Least.{is_split, never_none}
use Rattle.h2_set.proofs.split.least_range.Goals as goal

pub returns-in-Some-clause-split : goal.returns-in-Some-clause-split
returns-in-Some-clause-split c = is_split _ _ _ c.loop-bits.invariant c.in-Some.ensures.found.0 c.in-Some.ensures.found.1

pub unreachable-requires : goal.unreachable-requires
unreachable-requires c = never_none c.args.all.now c.requires.few.0 c.requires.rising c.requires.aligned c.requires.class (λ k b lt. c.loop-bits.invariant k b (omega (arith, lt, c.loop-bits-test.false)))
