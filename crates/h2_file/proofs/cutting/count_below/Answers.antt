use Rattle.std.proofs.Common.{arith}
use Rattle.std.proofs.lemmas.Option.{slice_get_within}
use Rattle.h2_file.proofs.Parts.{past_place}
use Rattle.h2_file.proofs.cutting.count_below.Goals as goal

pub returns-then-at-size-clause-past : goal.returns-then-at-size-clause-past
returns-then-at-size-clause-past c i r read le = past_place _ c.loop-i.i i c.at.result.now r _ c.len-i-end.ensures.set c.at.ensures read le c.if-at-size.true

pub returns-clause-past : goal.returns-clause-past
returns-clause-past c i r read le = absurd (let w = slice_get_within c.args.set.now.refs i r read in let n = c.len.ensures.len in omega (arith, w, n, le))
