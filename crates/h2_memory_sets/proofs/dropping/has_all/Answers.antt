use Rattle.std.proofs.Common.{◌≡◌, arith, false}
use Rattle.std.proofs.lemmas.Option.{slice_get_within}
use Rattle.h2_set.specs.RefSet.{RefSet}
use Rattle.h2_memory_sets.specs.View.{lacks}
use Rattle.h2_memory_sets.proofs.Fitting.{one_more}
use Rattle.h2_memory_sets.proofs.dropping.has_all.Goals as goal

pub loop-i-preserved : goal.loop-i-preserved
loop-i-preserved c = one_more (λ q. lacks (let s : RefSet = c.args.new.now in s.refs) q ≡ false) _ _ c.loop-i.invariant _ c.at.ensures (c.has.ensures c.if-not-has.false)

pub returns : goal.returns
returns c = λ yes j q read. c.loop-i.invariant j q (let lt = slice_get_within _ j q read in let n = c.len-i-end.ensures.len in let past = c.loop-i-test.false in omega (arith, lt, n, past)) read
