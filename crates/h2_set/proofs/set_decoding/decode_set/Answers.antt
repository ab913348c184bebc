use Rattle.std.proofs.Common.{◌/◌, length, arith}
use Rattle.h2_num.specs.Places.{places}
use Rattle.h2_set.proofs.Fronts.{fault_at, found_at}
use Rattle.h2_set.proofs.set_decoding.decode_set.Goals as goal

pub returns-in-Err-clause-fault : goal.returns-in-Err-clause-fault
returns-in-Err-clause-fault c =
    fault_at (length c.args.b.now / 128) (length c.args.b.now / 128) c.len.result c.fill_front.new.set.refs (places c.args.b.now) c.in-Err.fault c.in_ok-fill_front.ensures.found (omega arith) c.len.ensures.len c.in-Err.ensures.fault

pub returns-in-Ok-clause-found : goal.returns-in-Ok-clause-found
returns-in-Ok-clause-found c =
    found_at c.fill_front.new.set.capacity (length c.args.b.now / 128) (length c.args.b.now / 128) c.len.result c.fill_front.new.set.refs (places c.args.b.now) c.in_ok-fill_front.ensures.found c.in_ok-fill_front.ensures.capacity (omega arith) c.len.ensures.len c.len.ensures.set.rising c.in-Ok.ensures.empty
