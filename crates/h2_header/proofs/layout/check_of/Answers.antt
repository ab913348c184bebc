use Rattle.h2_header.proofs.Block.{front_check}
use Rattle.h2_header.proofs.layout.check_of.Goals as goal

pub returns : goal.returns
returns c = front_check c.args.b.now c.split_at.result.0.now c.crc32c.result 65532 c.split_at.ensures.front c.split_at.ensures.front_len c.crc32c.ensures
