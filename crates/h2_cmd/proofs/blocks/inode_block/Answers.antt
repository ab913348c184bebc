use Rattle.std.proofs.Common.{replicate}
use Rattle.h2_num.specs.Places.{places, ZeroIn}
use Rattle.h2_image.specs.NewBlocks.{InodeHead}
use Rattle.h2_cmd.proofs.Inodes.{head_put, zeros_in_array}
use Rattle.h2_cmd.proofs.blocks.inode_block.Goals as goal

both : (c : goal.After-b-12-1) → InodeHead c.args.kind c.args.number c.args.next c.args.name.now (places c.put_bytes.new.b) × ZeroIn 512 1024 (places c.put_bytes.new.b)
both c = head_put c.args.kind c.args.number c.args.next c.args.name.now (places (replicate 1024 0)) (places c.put8.new.b) (places c.put32.new.b) (places c.put64.new.b)
    (places c.put64-2.new.b) (places c.put16.new.b) (places c.put_bytes.new.b) c.requires (zeros_in_array 1024)
    c.put8.ensures c.put32.ensures c.put64.ensures c.put64-2.ensures c.put16.ensures c.put_bytes.ensures

pub returns-clause-head : goal.returns-clause-head
returns-clause-head c = (both c).0

pub returns-clause-body : goal.returns-clause-body
returns-clause-body c = (both c).1
