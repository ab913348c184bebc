use Rattle.std.proofs.Common.{◌≡◌, None, below_more}
use Rattle.h2_num.specs.Places.{places}
use Rattle.h2_ref.specs.Fault.{first_fault}
use Rattle.h2_set.specs.SetBytes.{slot}
use Rattle.h2_set.proofs.set_decoding.check_refs.Goals as goal

pub loop-i-preserved : goal.loop-i-preserved
loop-i-preserved c = below_more (λ i. first_fault (slot (places c.args.b.now) i) ≡ None) c.loop-i.i c.loop-i.invariant c.in_ok-ref_at.ensures.decoded
