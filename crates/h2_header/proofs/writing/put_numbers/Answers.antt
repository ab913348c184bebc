use Rattle.h2_header.proofs.Numbers.{numbers_put}
use Rattle.h2_num.specs.Places.{places}
use Rattle.h2_header.proofs.writing.put_numbers.Goals as goal

pub returns : goal.returns
returns c =
    let whole = numbers_put c.args.h.now (places c.args.out.now) (places c.put_bytes.new.b) (places c.put32.new.b) (places c.put32-2.new.b) (places c.put64.new.b) (places c.put64-2.new.b) (places c.put64-3.new.b)
    c.put_bytes.ensures c.put32.ensures c.put32-2.ensures c.put64.ensures c.put64-2.ensures c.put64-3.ensures in
    record { magic = whole.magic; version = whole.version; numbers = whole.numbers; others = whole.others }
