use Rattle.h2_checkpoint.specs.Stands.{disk_state}
use Rattle.h2_checkpoint.proofs.Making.{finished_safely, set_back_safely, is_made, image_elsewhere}
use Rattle.h2_checkpoint.proofs.new_volume.make.Goals as goal

pub returns-in-Err-clause-cuts : goal.returns-in-Err-clause-cuts
returns-in-Err-clause-cuts g c = λ tells laws f p. set_back_safely g.V.VolumeFormat.format laws c.args.pieces.now c.args.place c.args.header.now
    (disk_state g.D.Disk.image g.D.Disk.moment g.D.Disk.trace c.args.disk.now) (disk_state g.D.Disk.image g.D.Disk.moment g.D.Disk.trace c.drive.new.disk)
    (g.met.D.Disk.trace_past c.args.disk.now) (c.in-Err.ensures.set_back tells) f p

pub returns-clause-cuts : goal.returns-clause-cuts
returns-clause-cuts g c = λ tells laws f p. finished_safely g.V.VolumeFormat.format laws c.args.pieces.now c.args.place c.args.header.now
    (disk_state g.D.Disk.image g.D.Disk.moment g.D.Disk.trace c.args.disk.now) (disk_state g.D.Disk.image g.D.Disk.moment g.D.Disk.trace c.drive.new.disk)
    (g.met.D.Disk.trace_past c.args.disk.now) (c.in_default.ensures.finishes tells) f p

pub returns-clause-makes : goal.returns-clause-makes
returns-clause-makes g c = λ tells laws f p. is_made g.V.VolumeFormat.format laws c.args.pieces.now c.args.place c.args.header.now
    (disk_state g.D.Disk.image g.D.Disk.moment g.D.Disk.trace c.args.disk.now) (disk_state g.D.Disk.image g.D.Disk.moment g.D.Disk.trace c.drive.new.disk)
    (c.in_default.ensures.finishes tells) (c.in_default.ensures.image tells) f p

pub returns-clause-elsewhere : goal.returns-clause-elsewhere
returns-clause-elsewhere g c = λ tells. image_elsewhere c.args.pieces.now c.args.place c.args.header.now (g.D.Disk.image c.args.disk.now) (g.D.Disk.image c.drive.new.disk) (c.in_default.ensures.image tells)
