use Rattle.h2_checkpoint.specs.Stands.{disk_state}
use Rattle.std.proofs.Common.{refl, inl}
use Rattle.h2_cmd.proofs.Slots.{cuts_nothing}
use Rattle.h2_cmd.proofs.Kept.{may_want}
use Rattle.h2_cmd.proofs.formatting.make_volume.Goals as goal

pub returns-in_default-clause-cuts : goal.returns-in_default-clause-cuts
returns-in_default-clause-cuts g c = λ tells durable none.
    cuts_nothing c.args.zones (disk_state g.D.Disk.image g.D.Disk.moment g.D.Disk.trace c.args.disk.now) (disk_state g.D.Disk.image g.D.Disk.moment g.D.Disk.trace c.args.disk.now)
    refl (g.met.D.Disk.trace_past c.args.disk.now) durable none

pub returns-in_default-clause-memory : goal.returns-in_default-clause-memory
returns-in_default-clause-memory g c = inl refl

pub returns-in-Err-clause-memory : goal.returns-in-Err-clause-memory
returns-in-Err-clause-memory g c = may_want _ _ c.in-Err.fault c.in-Err.ensures.memory
