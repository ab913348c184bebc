use Rattle.std.proofs.Common.{◌≡◌, subst, rules}
use Rattle.h2_num.specs.Places.{places}
use Rattle.h2_codes.specs.Codes.{IsSegment}
use Rattle.h2_freeleaf.specs.Leaf.{PartBytes}
use Rattle.h2_freeleaf.specs.FaultLaws.{leaf_fault-none}
use Rattle.h2_freeleaf.proofs.Parts.{ReadTo, read_more}
use Rattle.h2_freeleaf.proofs.Leaves.{leaf_fault, all_read}
use Rattle.h2_freeleaf.proofs.leaf.decode_leaf.Goals as goal

pub returns-in-Err-clause-fault : goal.returns-in-Err-clause-fault
returns-in-Err-clause-fault c = leaf_fault c.args.place (places c.args.b.now) c.loop-i.segments c.loop-i.i c.in-Err.fault c.loop-i-test.true c.loop-i.invariant c.in-Err.ensures.fault

pub returns-in-Err-clause-none : goal.returns-in-Err-clause-none
returns-in-Err-clause-none c =
    leaf_fault-none c.args.place (places c.args.b.now) c.in-Err.fault (leaf_fault c.args.place (places c.args.b.now) c.loop-i.segments c.loop-i.i c.in-Err.fault c.loop-i-test.true c.loop-i.invariant c.in-Err.ensures.fault)

pub loop-i-preserved : goal.loop-i-preserved
loop-i-preserved c =
    read_more IsSegment PartBytes (places c.args.b.now) c.loop-i.segments c.in-Ok.segment c.loop-i.i c.loop-i-test.true c.loop-i.invariant c.in-Ok.ensures.found.0 c.in-Ok.ensures.found.1

pub returns-clause-found : goal.returns-clause-found
returns-clause-found c =
    let end : c.loop-i.i ≡ 8 = search rules in
    all_read (places c.args.b.now) c.loop-i.segments (subst (ReadTo IsSegment PartBytes (places c.args.b.now) c.loop-i.segments) end c.loop-i.invariant)
