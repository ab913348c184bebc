use Rattle.h2_codes.proofs.Lookup.{holds_codes}
use Rattle.h2_codes.proofs.segment.Segment.from_bytes.Goals as goal

pub returns-clause-value : goal.returns-clause-value
returns-clause-value c = holds_codes c.args.bytes.now c.told-bytes
