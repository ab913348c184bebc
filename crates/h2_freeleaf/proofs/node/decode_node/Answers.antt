use Rattle.std.proofs.Common.{◌≡◌, subst, refl, rules}
use Rattle.h2_num.specs.Places.{places}
use Rattle.h2_ref.specs.Ref.{IsValid, RefBytes}
use Rattle.h2_freeleaf.specs.FaultLaws.{node_fault-none}
use Rattle.h2_freeleaf.proofs.Parts.{ReadTo, read_more}
use Rattle.h2_freeleaf.proofs.Nodes.{node_fault, all_read}
use Rattle.h2_freeleaf.proofs.node.decode_node.Goals as goal

pub returns-in_default-clause-fault : goal.returns-in_default-clause-fault
returns-in_default-clause-fault c = node_fault c.args.place (places c.args.b.now) c.loop-i.refs c.loop-i.i _ c.loop-i-test.true c.loop-i.invariant c.in_default.ensures.none refl

pub returns-in_default-clause-none : goal.returns-in_default-clause-none
returns-in_default-clause-none c =
    node_fault-none c.args.place (places c.args.b.now) _ (node_fault c.args.place (places c.args.b.now) c.loop-i.refs c.loop-i.i _ c.loop-i-test.true c.loop-i.invariant c.in_default.ensures.none refl)

pub loop-i-preserved : goal.loop-i-preserved
loop-i-preserved c =
    read_more IsValid RefBytes (places c.args.b.now) c.loop-i.refs c.in-Some.r c.loop-i.i c.loop-i-test.true c.loop-i.invariant c.in-Some.ensures.found.0 c.in-Some.ensures.found.1

pub returns-clause-found : goal.returns-clause-found
returns-clause-found c =
    let end : c.loop-i.i ≡ 8 = search rules in
    all_read (places c.args.b.now) c.loop-i.refs (subst (ReadTo IsValid RefBytes (places c.args.b.now) c.loop-i.refs) end c.loop-i.invariant)
