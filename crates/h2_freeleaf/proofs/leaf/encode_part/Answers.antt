use Rattle.std.proofs.Common.{rules}
use Rattle.h2_num.specs.Places.{places}
use Rattle.h2_ref.specs.Spelled.{zeros_at}
use Rattle.std.specs.Prelude.{replicate}
use Rattle.h2_freeleaf.proofs.Leaves.{part_put}
use Rattle.h2_freeleaf.proofs.leaf.encode_part.Goals as goal

pub returns-clause-bytes : goal.returns-clause-bytes
returns-clause-bytes c =
    part_put c.args.segment.now c.as_bytes.result.now c.free.result (places (replicate 128 0)) (places c.put_bytes.new.b) (places c.put32.new.b)
    (search rules) c.as_bytes.ensures.value c.free.ensures.value (λ k ge lt. zeros_at 128 k) c.put_bytes.ensures c.put32.ensures
