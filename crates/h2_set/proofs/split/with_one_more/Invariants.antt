use Rattle.std.proofs.Common.{◌≡◌, take}
use Rattle.h2_set.proofs.split.with_one_more.Given as goal

abbrev pub invariant-loop-q : goal.invariant-loop-q
invariant-loop-q l = l.all.items ≡ take l.q-index l.refs
