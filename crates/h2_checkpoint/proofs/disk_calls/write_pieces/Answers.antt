use Rattle.std.proofs.Common.{◌<◌, ◌^◌, ◌∙◌, refl, arith, rules}
use Rattle.h2_checkpoint.specs.Stands.{disk_state}
use Rattle.h2_checkpoint.proofs.Calls.{wrote_piece, failed_piece, all_pieces, tried_outside}
use Rattle.h2_checkpoint.proofs.Pieces.{ticked, cause_since, want_since, piece_elsewhere, piece_overlay, last_overlay}
use Rattle.h2_checkpoint.proofs.disk_calls.write_pieces.Goals as goal

pub loop-piece-init : goal.loop-piece-init
loop-piece-init g c = record {
  time = omega arith;
  later = omega arith;
  wants = refl;
  image = λ tells k. refl;
  elsewhere = λ tells k out. refl;
  stands = λ tells laws start opening newest before f p marks s. s;
}

pub loop-piece-preserved : goal.loop-piece-preserved
loop-piece-preserved g c =
    let fits : g.D.Disk.moment c.loop-piece.disk < 2 ^ 64 = g.met.D.Disk.moment_fits c.loop-piece.disk in
    let tick = ticked (g.D.Disk.moment c.loop-piece.disk) (g.D.Disk.moment c.write.new.self) c.in_default.ensures.time c.in_default.ensures.end in
    record {
      time = omega (arith, tick, c.loop-piece.invariant.time);
      later = omega (arith, c.in_default.ensures.later, c.loop-piece.invariant.later);
      wants = c.in_default.ensures.memory ∙ c.loop-piece.invariant.wants;
      image = λ tells k. piece_overlay c.args.pieces.now c.loop-piece.piece-index c.piece-item.result c.as_slice.result.now (g.D.Disk.image c.loop-piece.disk) (g.D.Disk.image c.write.new.self) (omega arith) (search rules) (search rules)
          (c.in_default.ensures.wrote tells).inside (c.in_default.ensures.wrote tells).others k ∙ c.loop-piece.invariant.image tells k;
      elsewhere = λ tells k out. piece_elsewhere c.args.pieces.now c.loop-piece.piece-index c.piece-item.result c.as_slice.result.now (g.D.Disk.image c.loop-piece.disk) (g.D.Disk.image c.write.new.self) (omega arith) (search rules) (search rules)
          (c.in_default.ensures.wrote tells).others k out ∙ c.loop-piece.invariant.elsewhere tells k out;
      stands = λ tells laws start opening newest before f p marks s.
          wrote_piece g.V.VolumeFormat.format laws start opening before marks (disk_state g.D.Disk.image g.D.Disk.moment g.D.Disk.trace c.loop-piece.disk) (disk_state g.D.Disk.image g.D.Disk.moment g.D.Disk.trace c.write.new.self)
          newest f p c.args.pieces.now c.loop-piece.piece-index c.piece-item.result c.as_slice.result.now (omega (arith, tick)) (omega arith) (search rules) (search rules)
          (c.in_default.ensures.wrote tells) (c.loop-piece.invariant.stands tells laws start opening newest before f p marks s);
    }

pub returns-in-Err-clause-set_back : goal.returns-in-Err-clause-set_back
returns-in-Err-clause-set_back g c = λ tells laws start opening newest before f p marks s.
    let fits : g.D.Disk.moment c.loop-piece.disk < 2 ^ 64 = g.met.D.Disk.moment_fits c.loop-piece.disk in
    failed_piece g.V.VolumeFormat.format laws start opening before marks (disk_state g.D.Disk.image g.D.Disk.moment g.D.Disk.trace c.loop-piece.disk) (disk_state g.D.Disk.image g.D.Disk.moment g.D.Disk.trace c.write.new.self)
    newest f p c.args.pieces.now c.loop-piece.piece-index c.piece-item.result c.as_slice.result.now (omega (arith, c.in-Err.ensures.time)) (omega arith) (search rules) (search rules)
    (c.in-Err.ensures.failed tells) (c.loop-piece.invariant.stands tells laws start opening newest before f p marks s)

pub returns-in-Err-clause-elsewhere : goal.returns-in-Err-clause-elsewhere
returns-in-Err-clause-elsewhere g c = λ tells k out. piece_elsewhere c.args.pieces.now c.loop-piece.piece-index c.piece-item.result c.as_slice.result.now (g.D.Disk.image c.loop-piece.disk) (g.D.Disk.image c.write.new.self) (omega arith) (search rules) (search rules)
    (tried_outside _ _ _ _ _ _ _ (c.in-Err.ensures.failed tells)) k out ∙ c.loop-piece.invariant.elsewhere tells k out

pub returns-in-Err-clause-time_failed : goal.returns-in-Err-clause-time_failed
returns-in-Err-clause-time_failed g c =
    let fits : g.D.Disk.moment c.loop-piece.disk < 2 ^ 64 = g.met.D.Disk.moment_fits c.loop-piece.disk in
    omega (arith, c.in-Err.ensures.time, c.loop-piece.invariant.time)

pub returns-in-Err-clause-later : goal.returns-in-Err-clause-later
returns-in-Err-clause-later g c = omega (arith, c.in-Err.ensures.later, c.loop-piece.invariant.later)

pub returns-in-Err-clause-cause : goal.returns-in-Err-clause-cause
returns-in-Err-clause-cause g c = cause_since _ _ _ c.in-Err.fault c.loop-piece.invariant.later c.in-Err.ensures.cause

pub returns-in-Err-clause-memory : goal.returns-in-Err-clause-memory
returns-in-Err-clause-memory g c = want_since _ _ _ c.in-Err.fault c.loop-piece.invariant.wants c.in-Err.ensures.memory

pub returns-clause-writes : goal.returns-clause-writes
returns-clause-writes g c = λ tells laws start opening newest before f p marks s.
    all_pieces g.V.VolumeFormat.format laws start opening before marks (disk_state g.D.Disk.image g.D.Disk.moment g.D.Disk.trace c.loop-piece.disk) newest f p c.args.pieces.now c.loop-piece.piece-index (omega arith)
    (c.loop-piece.invariant.stands tells laws start opening newest before f p marks s)

pub returns-clause-image : goal.returns-clause-image
returns-clause-image g c = λ tells. last_overlay c.args.pieces.now c.loop-piece.piece-index (g.D.Disk.image c.args.disk.now) (g.D.Disk.image c.loop-piece.disk) (omega arith) (c.loop-piece.invariant.image tells)

pub returns-in-Err-clause-time_most : goal.returns-in-Err-clause-time_most
returns-in-Err-clause-time_most g c = omega (arith, c.in-Err.ensures.time, c.loop-piece.invariant.time)
