use Rattle.std.proofs.Common.{arith, rules}
use Rattle.std.specs.Prelude.{codes}
use Rattle.h2_num.specs.Places.{places}
use Rattle.h2_cmd.proofs.Inodes.{pfs_put}
use Rattle.h2_cmd.proofs.blocks.root_pfs_block.Goals as goal

pub returns : goal.returns
returns c =
    let all = pfs_put c.args.directory.now c.encode.result (codes "ROOT") (places c.inode_block-b.result) (places c.put_bytes.new.b) (search rules) (omega arith)
    c.inode_block-b.ensures.head c.inode_block-b.ensures.body c.encode.ensures c.put_bytes.ensures in
    record { head = all.0; directory_is = all.1; no_more = all.2 }
