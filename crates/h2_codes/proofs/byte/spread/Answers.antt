use Rattle.h2_codes.proofs.Bytes.{spread_is}
use Rattle.h2_codes.proofs.byte.spread.Goals as goal

pub returns : goal.returns
returns c = spread_is c.args.byte c.ranges.byte.fits
