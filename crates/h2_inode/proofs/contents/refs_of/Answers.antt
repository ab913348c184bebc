use Rattle.std.proofs.Common.{length}
use Rattle.h2_num.specs.Places.{places, from_place}
use Rattle.h2_inode.proofs.SetLemmas.{refs_fault, lies_there, fault_of_body, set_of_body}
use Rattle.h2_inode.proofs.contents.refs_of.Goals as goal

pub check_own-requires : goal.check_own-requires
check_own-requires c =
    let at = set_of_body (length c.contents_of.result.now) c.in-Ok.set.capacity c.in-Ok.set.refs (from_place (places c.args.b.now) 512) (places c.contents_of.result.now) c.in-Ok.ensures.capacity c.contents_of.ensures.len c.contents_of.ensures.bytes c.in-Ok.ensures.found in
    record { capacity = at.0; found = at.1 }

pub in_body-requires : goal.in_body-requires
in_body-requires c = lies_there (from_place (places c.args.b.now) 512) c.in-Err.fault
    (fault_of_body (length c.contents_of.result.now) (from_place (places c.args.b.now) 512) (places c.contents_of.result.now) c.in-Err.fault c.contents_of.ensures.len c.contents_of.ensures.bytes c.in-Err.ensures.fault)

pub returns-in-Err-clause-fault : goal.returns-in-Err-clause-fault
returns-in-Err-clause-fault c =
    rw c.in_body.ensures (refs_fault c.args.kind c.args.size (from_place (places c.args.b.now) 512) c.in-Err.fault
    (fault_of_body (length c.contents_of.result.now) (from_place (places c.args.b.now) 512) (places c.contents_of.result.now) c.in-Err.fault c.contents_of.ensures.len c.contents_of.ensures.bytes c.in-Err.ensures.fault))
