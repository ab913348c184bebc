use Rattle.h2_freeleaf.proofs.BlockReads.{leaf_read, leaf_refused}
use Rattle.h2_freeleaf.proofs.reading.read_leaf.Goals as goal

pub returns-in-Ok-clause-leads : goal.returns-in-Ok-clause-leads
returns-in-Ok-clause-leads g c = λ tells.
    leaf_read (g.D.Disk.image c.args.disk.now) c.args.r.now c.in_ok-block.block c.in-Ok.leaf (c.in_ok-block.ensures.bytes tells) (c.in_ok-block.ensures.check tells) c.in-Ok.ensures.found

pub returns-in-Err-clause-cause : goal.returns-in-Err-clause-cause
returns-in-Err-clause-cause g c = λ tells.
    leaf_refused (g.D.Disk.image c.args.disk.now) c.args.r.now c.in_ok-block.block c.in-Err.fault (c.in_ok-block.ensures.bytes tells) (c.in_ok-block.ensures.check tells) c.in-Err.ensures.fault
