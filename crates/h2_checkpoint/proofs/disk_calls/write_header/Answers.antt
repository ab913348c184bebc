use Rattle.std.proofs.Common.{◌<◌, ◌^◌, arith}
use Rattle.h2_checkpoint.specs.Stands.{disk_state}
use Rattle.h2_checkpoint.proofs.Calls.{wrote_header, failed_header, tried_outside}
use Rattle.h2_checkpoint.proofs.disk_calls.write_header.Goals as goal

pub returns-in-Err-clause-set_back : goal.returns-in-Err-clause-set_back
returns-in-Err-clause-set_back g c = λ tells laws start opening newest before f p marks at is s.
    let fits : g.D.Disk.moment c.args.disk.now < 2 ^ 64 = g.met.D.Disk.moment_fits c.args.disk.now in
    failed_header g.V.VolumeFormat.format laws start opening before marks (disk_state g.D.Disk.image g.D.Disk.moment g.D.Disk.trace c.args.disk.now) (disk_state g.D.Disk.image g.D.Disk.moment g.D.Disk.trace c.write.new.self) newest f p c.args.place c.args.header.now (omega arith) at is (c.in-Err.ensures.failed tells) s

pub returns-in-Err-clause-elsewhere : goal.returns-in-Err-clause-elsewhere
returns-in-Err-clause-elsewhere g c = λ tells. tried_outside _ _ _ _ _ _ _ (c.in-Err.ensures.failed tells)

pub returns-clause-sends : goal.returns-clause-sends
returns-clause-sends g c = λ tells laws start opening newest before f p marks at is s.
    let fits : g.D.Disk.moment c.args.disk.now < 2 ^ 64 = g.met.D.Disk.moment_fits c.args.disk.now in
    wrote_header g.V.VolumeFormat.format laws start opening before marks (disk_state g.D.Disk.image g.D.Disk.moment g.D.Disk.trace c.args.disk.now) (disk_state g.D.Disk.image g.D.Disk.moment g.D.Disk.trace c.write.new.self) newest f p c.args.place c.args.header.now (omega arith) at is (c.in_default.ensures.wrote tells) s
