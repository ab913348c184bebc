use Rattle.std.proofs.Common.{◌<◌, ◌^◌, arith}
use Rattle.h2_checkpoint.specs.Stands.{disk_state}
use Rattle.h2_checkpoint.proofs.Calls.{synced_blocks, failed_sync}
use Rattle.h2_checkpoint.proofs.disk_calls.sync_blocks.Goals as goal

pub returns-in-Err-clause-set_back : goal.returns-in-Err-clause-set_back
returns-in-Err-clause-set_back g c = λ tells laws start opening newest before f p stage marks s.
    let fits : g.D.Disk.moment c.args.disk.now < 2 ^ 64 = g.met.D.Disk.moment_fits c.args.disk.now in
    let time = c.in-Err.ensures.time_failed in
    failed_sync g.V.VolumeFormat.format laws start opening before marks (disk_state g.D.Disk.image g.D.Disk.moment g.D.Disk.trace c.args.disk.now) (disk_state g.D.Disk.image g.D.Disk.moment g.D.Disk.trace c.settle.new.disk) newest f p stage (omega (arith, time)) (c.in-Err.ensures.failed tells) s

pub returns-clause-secures : goal.returns-clause-secures
returns-clause-secures g c = λ tells laws start opening newest before f p marks s.
    let time = c.in_default.ensures.time in
    synced_blocks g.V.VolumeFormat.format laws start opening before marks (disk_state g.D.Disk.image g.D.Disk.moment g.D.Disk.trace c.args.disk.now) (disk_state g.D.Disk.image g.D.Disk.moment g.D.Disk.trace c.settle.new.disk) newest f p (omega (arith, time)) (c.in_default.ensures.synced tells) s
