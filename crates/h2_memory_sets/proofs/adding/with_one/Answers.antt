use Rattle.std.proofs.Common.{List, length, ap, arith}
use Rattle.h2_ref.specs.declared.reference.Ref.{Ref}
use Rattle.h2_set.specs.EditLaws.{length-put}
use Rattle.h2_memory_sets.proofs.Putting.{put_limit}
use Rattle.h2_memory_sets.proofs.adding.with_one.Goals as goal

pub put-requires-clause-small : goal.put-requires-clause-small
put-requires-clause-small c = put_limit _ _ _ _ c.requires.rising

pub unreachable-requires : goal.unreachable-requires
unreachable-requires c =
    let full = c.put.ensures.answer.0 c.in-Full.is in
    let more = length-put c.args.r c.cleared-all.result.refs c.cleared-all.ensures.apart in
    let same = ap (λ (l : List Ref). length l) c.cleared-all.ensures.same in
    let fits = c.requires.fits in
    let capacity = c.cleared-all.ensures.capacity in
    omega (arith, full, more, same, fits, capacity)
