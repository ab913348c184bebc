use Rattle.h2_freeleaf.proofs.BlockReads.{node_read, node_refused}
use Rattle.h2_freeleaf.proofs.reading.read_node.Goals as goal

pub returns-in-Ok-clause-leads : goal.returns-in-Ok-clause-leads
returns-in-Ok-clause-leads g c = λ tells.
    node_read (g.D.Disk.image c.args.disk.now) c.args.r.now c.in_ok-block.block c.in-Ok.refs (c.in_ok-block.ensures.bytes tells) (c.in_ok-block.ensures.check tells) c.in-Ok.ensures.found

pub returns-in-Err-clause-cause : goal.returns-in-Err-clause-cause
returns-in-Err-clause-cause g c = λ tells.
    node_refused (g.D.Disk.image c.args.disk.now) c.args.level c.args.h.now.zones c.args.h.now.map_number c.args.zone c.args.r.now c.in_ok-block.block c.in-Err.wrong (c.in_ok-block.ensures.bytes tells) (c.in_ok-block.ensures.check tells) c.in-Err.ensures.wrong
