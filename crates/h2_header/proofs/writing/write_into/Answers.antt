use Rattle.std.proofs.Common.{◌≡◌, length, arith, rules}
use Rattle.h2_num.specs.Places.{places, ZeroIn}
use Rattle.h2_header.proofs.Block.{block_put}
use Rattle.h2_header.proofs.writing.write_into.Goals as goal

pub returns : goal.returns
returns c =
    let root_len : length c.args.h.now.root ≡ 4 = search rules in
    let map_len : length c.args.h.now.map ≡ 8 = search rules in
    let zeros : ZeroIn 0 65536 (places c.clear.new.b) = λ k ge lt. c.clear.ensures k ge (omega arith) in
    let f = c.put_numbers.ensures in
    block_put c.args.h.now c.check_of-check.result (places c.clear.new.b) (places c.put_numbers.new.out) (places c.put_refs.new.out) (places c.put_refs-2.new.out) (places c.put32.new.b)
    root_len map_len zeros (record { magic = f.magic; version = f.version; numbers = f.numbers; others = f.others }) c.put_refs.ensures.bytes (rw root_len at c.put_refs.ensures.others)
    c.put_refs-2.ensures.bytes (rw map_len at c.put_refs-2.ensures.others) c.check_of-check.ensures c.put32.ensures
