use Rattle.h2_num.specs.Places.{places}
use Rattle.h2_set.specs.ValidLaws.{valid_limit}
use Rattle.h2_set.proofs.Fronts.{apart_last, front_step}
use Rattle.h2_set.proofs.set_decoding.fill_front.Goals as goal

pub put-requires-clause-apart : goal.put-requires-clause-apart
put-requires-clause-apart c = apart_last c.in_ok-r.r c.loop-i.set.refs (c.extends.ensures.0 c.if-not-extends.false).1

pub put-requires-clause-small : goal.put-requires-clause-small
put-requires-clause-small c = valid_limit c.in_ok-r.r c.in_ok-r.ensures.found.0

pub loop-i-preserved : goal.loop-i-preserved
loop-i-preserved c =
    let next = front_step c.args.capacity c.loop-i.i c.in_ok-r.r c.loop-i.set c.put.new.self c.put.result (places c.args.b.now) c.loop-i.invariant.capacity_is c.loop-i.invariant.len c.loop-i-test.true
    c.loop-i.invariant.front c.in_ok-r.ensures.found c.in_ok-r.ensures.decoded (c.extends.ensures.0 c.if-not-extends.false) c.put.ensures.answer c.put.ensures.placed in
    record { capacity_is = next.0; len = next.1; front = next.2 }
