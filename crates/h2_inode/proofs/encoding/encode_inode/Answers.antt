use Rattle.std.proofs.Common.{replicate}
use Rattle.h2_num.specs.Places.{places}
use Rattle.h2_ref.specs.Spelled.{zeros_at}
use Rattle.h2_inode.specs.InodeLaws.{name_few}
use Rattle.h2_inode.proofs.FieldLemmas.{storable, fields_put}
use Rattle.h2_inode.proofs.encoding.encode_inode.Goals as goal

pub body_bytes-requires : goal.body_bytes-requires
body_bytes-requires c = storable c.args.i.now c.requires

pub returns : goal.returns
returns c =
    fields_put c.args.i.now c.body_bytes.result (places (replicate 1024 0)) (places c.put_bytes.new.b) (places c.put_bytes-2.new.b) (places c.put8.new.b) (places c.put8-2.new.b)
    (places c.put32.new.b) (places c.put64.new.b) (places c.put64-2.new.b) (places c.put64-3.new.b) (places c.put16.new.b)
    (name_few c.args.i.now c.requires) c.body_bytes.ensures.len c.body_bytes.ensures.bytes (λ k. zeros_at 1024 k)
    c.put_bytes.ensures (rw c.as_slice.ensures.bytes at c.put_bytes-2.ensures) (rw c.kind_byte.ensures at c.put8.ensures) (rw c.body_byte.ensures at c.put8-2.ensures)
    c.put32.ensures c.put64.ensures c.put64-2.ensures c.put64-3.ensures (rw c.as_slice-2.ensures.bytes at c.put16.ensures)
