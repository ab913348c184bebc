use Rattle.std.proofs.Common.{ap, ◌∙◌}
use Rattle.h2_codes.specs.Packed.{byte_codes}
use Rattle.h2_codes.proofs.Bytes.{put_bits, put_code}
use Rattle.h2_codes.proofs.byte.with_code.Goals as goal

pub returns : goal.returns
returns c = ap (λ n. byte_codes (put_bits c.args.byte c.args.k n)) c.bits_of.ensures ∙ put_code c.args.byte c.args.k c.args.code c.ranges.byte.fits c.requires
