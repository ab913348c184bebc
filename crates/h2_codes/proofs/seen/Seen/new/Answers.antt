use Rattle.std.proofs.Common.{refl, arith}
use Rattle.h2_codes.proofs.Lookup.{all_bytes-replicate}
use Rattle.h2_codes.proofs.seen.Seen.new.Goals as goal

pub invariant_of-result : goal.invariant_of-result
invariant_of-result c = (refl, all_bytes-replicate 32 0 (omega arith))
