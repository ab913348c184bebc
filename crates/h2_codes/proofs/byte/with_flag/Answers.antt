use Rattle.h2_codes.proofs.Bytes.{put_flag}
use Rattle.h2_codes.proofs.byte.with_flag.Goals as goal

pub returns : goal.returns
returns c = put_flag c.args.byte c.args.k c.requires
