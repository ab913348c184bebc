use Rattle.std.proofs.Common.{arith}
use Rattle.std.proofs.lemmas.Option.{slice_get_within}
use Rattle.h2_memory_sets.proofs.judging.find_loadable.Goals as goal

pub returns-clause-none : goal.returns-clause-none
returns-clause-none c = λ small k l. c.loop-c.invariant small k (let lt = slice_get_within c.args.nodes.now k l.node l.read in let past = c.loop-c-test.false in omega (arith, lt, past)) l
