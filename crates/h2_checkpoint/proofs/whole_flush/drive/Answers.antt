use Rattle.std.proofs.Common.{◌<◌, ◌^◌, length, refl, ◌∙◌, arith}
use Rattle.h2_checkpoint.specs.Stands.{disk_state}
use Rattle.h2_checkpoint.proofs.Pieces.{cause_since, want_since}
use Rattle.h2_checkpoint.proofs.Driving.{finishes, pieces_set_back, blocks_set_back, header_set_back, last_set_back, image_after, durable_after, pieces_elsewhere, elsewhere_after}
use Rattle.h2_checkpoint.proofs.whole_flush.drive.Goals as goal

pub returns-in-Err-clause-set_back : goal.returns-in-Err-clause-set_back
returns-in-Err-clause-set_back g c =
    λ tells. pieces_set_back g.V.VolumeFormat.format c.args.pieces.now c.args.place c.args.header.now (disk_state g.D.Disk.image g.D.Disk.moment g.D.Disk.trace c.args.disk.now) (disk_state g.D.Disk.image g.D.Disk.moment g.D.Disk.trace c.write_pieces.new.disk) (c.in-Err.ensures.set_back tells) c.in-Err.ensures.time_most

pub returns-in-Err-clause-elsewhere : goal.returns-in-Err-clause-elsewhere
returns-in-Err-clause-elsewhere g c =
    λ tells k out away. c.in-Err.ensures.elsewhere tells k out

pub returns-in-Err-sync_blocks-clause-set_back : goal.returns-in-Err-sync_blocks-clause-set_back
returns-in-Err-sync_blocks-clause-set_back g c =
    λ tells. blocks_set_back g.V.VolumeFormat.format c.args.pieces.now c.args.place c.args.header.now (disk_state g.D.Disk.image g.D.Disk.moment g.D.Disk.trace c.args.disk.now) (disk_state g.D.Disk.image g.D.Disk.moment g.D.Disk.trace c.write_pieces.new.disk) (disk_state g.D.Disk.image g.D.Disk.moment g.D.Disk.trace c.sync_blocks.new.disk) (c.in_default.ensures.writes tells) (c.in-Err-sync_blocks.ensures.set_back tells) (omega (arith, c.in_default.ensures.time, c.in-Err-sync_blocks.ensures.time_failed))

pub returns-in-Err-sync_blocks-clause-elsewhere : goal.returns-in-Err-sync_blocks-clause-elsewhere
returns-in-Err-sync_blocks-clause-elsewhere g c =
    λ tells k out away. c.in-Err-sync_blocks.ensures.image tells k ∙ pieces_elsewhere c.args.pieces.now (g.D.Disk.image c.args.disk.now) (g.D.Disk.image c.write_pieces.new.disk) (c.in_default.ensures.image tells) k out

pub returns-in-Err-sync_blocks-clause-time_failed : goal.returns-in-Err-sync_blocks-clause-time_failed
returns-in-Err-sync_blocks-clause-time_failed g c =
    let fits : g.D.Disk.moment c.write_pieces.new.disk < 2 ^ 64 = g.met.D.Disk.moment_fits c.write_pieces.new.disk in
    omega (arith, c.in_default.ensures.time, c.in-Err-sync_blocks.ensures.time_failed)

pub returns-in-Err-sync_blocks-clause-later : goal.returns-in-Err-sync_blocks-clause-later
returns-in-Err-sync_blocks-clause-later g c =
    omega (arith, c.in_default.ensures.later, c.in-Err-sync_blocks.ensures.later)

pub returns-in-Err-sync_blocks-clause-cause : goal.returns-in-Err-sync_blocks-clause-cause
returns-in-Err-sync_blocks-clause-cause g c =
    cause_since _ _ _ c.in-Err-sync_blocks.fault c.in_default.ensures.later c.in-Err-sync_blocks.ensures.cause

pub returns-in-Err-sync_blocks-clause-memory : goal.returns-in-Err-sync_blocks-clause-memory
returns-in-Err-sync_blocks-clause-memory g c =
    want_since _ _ _ c.in-Err-sync_blocks.fault c.in_default.ensures.memory c.in-Err-sync_blocks.ensures.memory

pub returns-in-Err-write_header-clause-set_back : goal.returns-in-Err-write_header-clause-set_back
returns-in-Err-write_header-clause-set_back g c =
    let fits : g.D.Disk.moment c.sync_blocks.new.disk < 2 ^ 64 = g.met.D.Disk.moment_fits c.sync_blocks.new.disk in
    λ tells. header_set_back g.V.VolumeFormat.format c.args.pieces.now c.args.place c.args.header.now (disk_state g.D.Disk.image g.D.Disk.moment g.D.Disk.trace c.args.disk.now) (disk_state g.D.Disk.image g.D.Disk.moment g.D.Disk.trace c.write_pieces.new.disk) (disk_state g.D.Disk.image g.D.Disk.moment g.D.Disk.trace c.sync_blocks.new.disk) (disk_state g.D.Disk.image g.D.Disk.moment g.D.Disk.trace c.write_header.new.disk) (c.in_default.ensures.writes tells) (c.in_default-sync_blocks.ensures.secures tells) (c.in-Err-write_header.ensures.set_back tells)
    (omega (arith, c.in_default.ensures.time, c.in_default-sync_blocks.ensures.time, c.in-Err-write_header.ensures.time_failed))
    (omega (arith, c.in_default.ensures.time, c.in_default-sync_blocks.ensures.time, c.in-Err-write_header.ensures.time_failed))

pub returns-in-Err-write_header-clause-elsewhere : goal.returns-in-Err-write_header-clause-elsewhere
returns-in-Err-write_header-clause-elsewhere g c =
    λ tells. elsewhere_after c.args.pieces.now c.args.place (length c.args.header.now) (g.D.Disk.image c.args.disk.now) (g.D.Disk.image c.write_pieces.new.disk) (g.D.Disk.image c.sync_blocks.new.disk) (g.D.Disk.image c.write_header.new.disk) (g.D.Disk.image c.write_header.new.disk) (c.in_default.ensures.image tells) (c.in_default-sync_blocks.ensures.image tells) (c.in-Err-write_header.ensures.elsewhere tells) (λ k. refl)

pub returns-in-Err-write_header-clause-time_failed : goal.returns-in-Err-write_header-clause-time_failed
returns-in-Err-write_header-clause-time_failed g c =
    let fits : g.D.Disk.moment c.sync_blocks.new.disk < 2 ^ 64 = g.met.D.Disk.moment_fits c.sync_blocks.new.disk in
    omega (arith, c.in_default.ensures.time, c.in_default-sync_blocks.ensures.time, c.in-Err-write_header.ensures.time_failed)

pub returns-in-Err-write_header-clause-later : goal.returns-in-Err-write_header-clause-later
returns-in-Err-write_header-clause-later g c =
    omega (arith, c.in_default.ensures.later, c.in_default-sync_blocks.ensures.later, c.in-Err-write_header.ensures.later)

pub returns-in-Err-write_header-clause-cause : goal.returns-in-Err-write_header-clause-cause
returns-in-Err-write_header-clause-cause g c =
    cause_since _ (g.D.Disk.faults c.sync_blocks.new.disk) _ c.in-Err-write_header.fault (omega (arith, c.in_default.ensures.later, c.in_default-sync_blocks.ensures.later)) c.in-Err-write_header.ensures.cause

pub returns-in-Err-write_header-clause-memory : goal.returns-in-Err-write_header-clause-memory
returns-in-Err-write_header-clause-memory g c =
    want_since _ _ _ c.in-Err-write_header.fault (c.in_default-sync_blocks.ensures.memory ∙ c.in_default.ensures.memory) c.in-Err-write_header.ensures.memory

pub returns-in-Err-sync_header-clause-set_back : goal.returns-in-Err-sync_header-clause-set_back
returns-in-Err-sync_header-clause-set_back g c =
    let fits : g.D.Disk.moment c.write_header.new.disk < 2 ^ 64 = g.met.D.Disk.moment_fits c.write_header.new.disk in
    λ tells. last_set_back g.V.VolumeFormat.format c.args.pieces.now c.args.place c.args.header.now (disk_state g.D.Disk.image g.D.Disk.moment g.D.Disk.trace c.args.disk.now) (disk_state g.D.Disk.image g.D.Disk.moment g.D.Disk.trace c.write_pieces.new.disk) (disk_state g.D.Disk.image g.D.Disk.moment g.D.Disk.trace c.sync_blocks.new.disk) (disk_state g.D.Disk.image g.D.Disk.moment g.D.Disk.trace c.write_header.new.disk) (disk_state g.D.Disk.image g.D.Disk.moment g.D.Disk.trace c.sync_header.new.disk) (c.in_default.ensures.writes tells) (c.in_default-sync_blocks.ensures.secures tells) (c.in_default-write_header.ensures.sends tells) (c.in-Err-sync_header.ensures.set_back tells)
    (omega (arith, c.in_default.ensures.time, c.in_default-sync_blocks.ensures.time, c.in_default-write_header.ensures.time))
    (omega (arith, c.in_default.ensures.time, c.in_default-sync_blocks.ensures.time, c.in_default-write_header.ensures.time, c.in-Err-sync_header.ensures.time_failed))
    (omega (arith, c.in_default.ensures.time, c.in_default-sync_blocks.ensures.time, c.in_default-write_header.ensures.time, c.in-Err-sync_header.ensures.time_failed))

pub returns-in-Err-sync_header-clause-elsewhere : goal.returns-in-Err-sync_header-clause-elsewhere
returns-in-Err-sync_header-clause-elsewhere g c =
    λ tells. elsewhere_after c.args.pieces.now c.args.place (length c.args.header.now) (g.D.Disk.image c.args.disk.now) (g.D.Disk.image c.write_pieces.new.disk) (g.D.Disk.image c.sync_blocks.new.disk) (g.D.Disk.image c.write_header.new.disk) (g.D.Disk.image c.sync_header.new.disk) (c.in_default.ensures.image tells) (c.in_default-sync_blocks.ensures.image tells) (c.in_default-write_header.ensures.elsewhere tells) (c.in-Err-sync_header.ensures.image tells)

pub returns-in-Err-sync_header-clause-time_failed : goal.returns-in-Err-sync_header-clause-time_failed
returns-in-Err-sync_header-clause-time_failed g c =
    let fits : g.D.Disk.moment c.write_header.new.disk < 2 ^ 64 = g.met.D.Disk.moment_fits c.write_header.new.disk in
    omega (arith, c.in_default.ensures.time, c.in_default-sync_blocks.ensures.time, c.in_default-write_header.ensures.time, c.in-Err-sync_header.ensures.time_failed)

pub returns-in-Err-sync_header-clause-later : goal.returns-in-Err-sync_header-clause-later
returns-in-Err-sync_header-clause-later g c =
    omega (arith, c.in_default.ensures.later, c.in_default-sync_blocks.ensures.later, c.in_default-write_header.ensures.later, c.in-Err-sync_header.ensures.later)

pub returns-in-Err-sync_header-clause-cause : goal.returns-in-Err-sync_header-clause-cause
returns-in-Err-sync_header-clause-cause g c =
    cause_since _ (g.D.Disk.faults c.write_header.new.disk) _ c.in-Err-sync_header.fault (omega (arith, c.in_default.ensures.later, c.in_default-sync_blocks.ensures.later, c.in_default-write_header.ensures.later)) c.in-Err-sync_header.ensures.cause

pub returns-in-Err-sync_header-clause-memory : goal.returns-in-Err-sync_header-clause-memory
returns-in-Err-sync_header-clause-memory g c =
    want_since _ _ _ c.in-Err-sync_header.fault (c.in_default-write_header.ensures.memory ∙ c.in_default-sync_blocks.ensures.memory ∙ c.in_default.ensures.memory) c.in-Err-sync_header.ensures.memory

pub returns-clause-finishes : goal.returns-clause-finishes
returns-clause-finishes g c =
    λ tells. finishes g.V.VolumeFormat.format c.args.pieces.now c.args.place c.args.header.now (disk_state g.D.Disk.image g.D.Disk.moment g.D.Disk.trace c.args.disk.now) (disk_state g.D.Disk.image g.D.Disk.moment g.D.Disk.trace c.write_pieces.new.disk) (disk_state g.D.Disk.image g.D.Disk.moment g.D.Disk.trace c.sync_blocks.new.disk) (disk_state g.D.Disk.image g.D.Disk.moment g.D.Disk.trace c.write_header.new.disk) (disk_state g.D.Disk.image g.D.Disk.moment g.D.Disk.trace c.sync_header.new.disk) (c.in_default.ensures.writes tells) (c.in_default-sync_blocks.ensures.secures tells) (c.in_default-write_header.ensures.sends tells) (c.in_default-sync_header.ensures.completes tells)
    (omega (arith, c.in_default.ensures.time, c.in_default-sync_blocks.ensures.time, c.in_default-write_header.ensures.time))
    (omega (arith, c.in_default.ensures.time, c.in_default-sync_blocks.ensures.time, c.in_default-write_header.ensures.time, c.in_default-sync_header.ensures.time))

pub returns-clause-image : goal.returns-clause-image
returns-clause-image g c =
    λ tells. image_after c.args.pieces.now c.args.place c.args.header.now (g.D.Disk.image c.args.disk.now) (g.D.Disk.image c.write_pieces.new.disk) (g.D.Disk.image c.sync_blocks.new.disk) (g.D.Disk.image c.write_header.new.disk) (g.D.Disk.image c.sync_header.new.disk) (c.in_default.ensures.image tells) (c.in_default-sync_blocks.ensures.image tells) (c.in_default-write_header.ensures.writes tells).inside (c.in_default-write_header.ensures.writes tells).others (c.in_default-sync_header.ensures.image tells)

pub returns-clause-durable : goal.returns-clause-durable
returns-clause-durable g c =
    λ tells. durable_after (g.D.Disk.trace c.write_header.new.disk) (g.D.Disk.trace c.sync_header.new.disk) (g.D.Disk.image c.sync_header.new.disk) (g.D.Disk.moment c.sync_header.new.disk) (c.in_default-sync_header.ensures.syncs tells).trace

pub returns-clause-time : goal.returns-clause-time
returns-clause-time g c =
    omega (arith, c.in_default.ensures.time, c.in_default-sync_blocks.ensures.time, c.in_default-write_header.ensures.time, c.in_default-sync_header.ensures.time)

pub returns-clause-later : goal.returns-clause-later
returns-clause-later g c =
    omega (arith, c.in_default.ensures.later, c.in_default-sync_blocks.ensures.later, c.in_default-write_header.ensures.later, c.in_default-sync_header.ensures.later)

pub returns-clause-memory : goal.returns-clause-memory
returns-clause-memory g c =
    c.in_default-sync_header.ensures.memory ∙ c.in_default-write_header.ensures.memory ∙ c.in_default-sync_blocks.ensures.memory ∙ c.in_default.ensures.memory

pub returns-in-Err-clause-time_most : goal.returns-in-Err-clause-time_most
returns-in-Err-clause-time_most g c = omega (arith, c.in-Err.ensures.time_most)

pub returns-in-Err-sync_blocks-clause-time_most : goal.returns-in-Err-sync_blocks-clause-time_most
returns-in-Err-sync_blocks-clause-time_most g c =
    omega (arith, c.in_default.ensures.time, c.in-Err-sync_blocks.ensures.time_failed)

pub returns-in-Err-write_header-clause-time_most : goal.returns-in-Err-write_header-clause-time_most
returns-in-Err-write_header-clause-time_most g c =
    omega (arith, c.in_default.ensures.time, c.in_default-sync_blocks.ensures.time, c.in-Err-write_header.ensures.time_failed)

pub returns-in-Err-sync_header-clause-time_most : goal.returns-in-Err-sync_header-clause-time_most
returns-in-Err-sync_header-clause-time_most g c =
    omega (arith, c.in_default.ensures.time, c.in_default-sync_blocks.ensures.time, c.in_default-write_header.ensures.time, c.in-Err-sync_header.ensures.time_failed)
