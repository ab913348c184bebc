use Rattle.std.proofs.Common.{◌≡◌, arith, false, sym, ◌∙◌}
use Rattle.std.proofs.lemmas.Option.{slice_get_within}
use Rattle.h2_set.specs.Ranges.{holds}
use Rattle.h2_memory_sets.proofs.Fitting.{one_more}
use Rattle.h2_memory_sets.proofs.Passing.{any_some, any_none}
use Rattle.h2_memory_sets.proofs.owners.any_holds.Goals as goal

pub returns-then-holds : goal.returns-then-holds
returns-then-holds c = sym (any_some (holds c.args.key) _ _ _ c.at.ensures (sym c.holds.ensures ∙ c.if-holds.true))

pub loop-i-preserved : goal.loop-i-preserved
loop-i-preserved c = one_more (λ r. holds c.args.key r ≡ false) _ _ c.loop-i.invariant _ c.at.ensures (sym c.holds.ensures ∙ c.if-holds.false)

pub returns : goal.returns
returns c = sym (any_none (holds c.args.key) _ (λ j r read. c.loop-i.invariant j r (let lt = slice_get_within _ j r read in let n = c.len-i-end.ensures.len in let past = c.loop-i-test.false in omega (arith, lt, n, past)) read))
