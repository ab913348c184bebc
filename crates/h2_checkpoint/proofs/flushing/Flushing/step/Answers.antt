use Rattle.std.proofs.Common.{◌<◌, ◌≤◌, ◌^◌, ◌∙◌, ℕ, List, length, sym, subst, arith, rules}
use Rattle.std.specs.Prelude.{Ok, Err}
use Rattle.h2_num.specs.Places.{SameOutside}
use Rattle.h2_checkpoint.specs.Checkpoint.{Sent, progress_after_sync, Header_written}
use Rattle.h2_checkpoint.specs.Steps.{stage_of}
use Rattle.h2_checkpoint.specs.Stands.{disk_state}
use Rattle.h2_checkpoint.specs.declared.next.Next.TheVariants.{Pieces, Header, Finish}
use Rattle.h2_checkpoint.specs.declared.next.Stepped.TheVariants.{Wrote, Synced, Out, Done}
use Rattle.h2_checkpoint.proofs.Calls.{wrote_piece, failed_piece, all_pieces, tried_outside}
use Rattle.h2_checkpoint.proofs.Pieces.{ticked, piece_elsewhere}
use Rattle.h2_checkpoint.proofs.Nexts.{from_next, to_fault, image_by_next, piece_laid, beside_piece, no_piece_laid, beside_no_piece, header_laid}
use Rattle.h2_checkpoint.proofs.flushing.Flushing.step.Goals as goal

pub returns-in-Err-clause-steps : goal.returns-in-Err-clause-steps
returns-in-Err-clause-steps g c =
    let fits : g.D.Disk.moment c.args.disk.now < 2 ^ 64 = g.met.D.Disk.moment_fits c.args.disk.now in
    λ tells laws start opening newest before f p marks plan s. (
      p,
      to_fault g.V.VolumeFormat.format start opening before marks (disk_state g.D.Disk.image g.D.Disk.moment g.D.Disk.trace c.write.new.self) newest f p c.args.self.now.pieces.items c.args.self.now.place c.args.self.now.header c.args.self.now.next (Pieces c.in-Pieces.k) c.in-Pieces.is plan
          (failed_piece g.V.VolumeFormat.format laws start opening before marks (disk_state g.D.Disk.image g.D.Disk.moment g.D.Disk.trace c.args.disk.now) (disk_state g.D.Disk.image g.D.Disk.moment g.D.Disk.trace c.write.new.self) newest f p c.args.self.now.pieces.items c.in-Pieces.k c.index-piece.result.now c.as_slice.result.now (omega (arith, c.in-Err.ensures.time)) (let lt : c.in-Pieces.k < length c.args.self.now.pieces.items = search rules in lt) c.index-piece.ensures c.as_slice.ensures (c.in-Err.ensures.failed tells)
          (from_next g.V.VolumeFormat.format start opening before marks (disk_state g.D.Disk.image g.D.Disk.moment g.D.Disk.trace c.args.disk.now) newest f p c.args.self.now.pieces.items c.args.self.now.next (Pieces c.in-Pieces.k) c.in-Pieces.is s)),
    )

pub returns-in-Err-clause-elsewhere : goal.returns-in-Err-clause-elsewhere
returns-in-Err-clause-elsewhere g c =
    λ tells k out away. piece_elsewhere c.args.self.now.pieces.items c.in-Pieces.k c.index-piece.result.now c.as_slice.result.now (g.D.Disk.image c.args.disk.now) (g.D.Disk.image c.write.new.self) (let lt : c.in-Pieces.k < length c.args.self.now.pieces.items = search rules in lt) c.index-piece.ensures c.as_slice.ensures (tried_outside _ _ _ _ _ _ _ (c.in-Err.ensures.failed tells)) k out

pub returns-then-k-len-clause-steps : goal.returns-then-k-len-clause-steps
returns-then-k-len-clause-steps g c =
    let tick = ticked (g.D.Disk.moment c.args.disk.now) (g.D.Disk.moment c.write.new.self) c.in_default.ensures.time c.in_default.ensures.end in
    λ tells laws start opening newest before f p marks plan s. (
      p,
      wrote_piece g.V.VolumeFormat.format laws start opening before marks (disk_state g.D.Disk.image g.D.Disk.moment g.D.Disk.trace c.args.disk.now) (disk_state g.D.Disk.image g.D.Disk.moment g.D.Disk.trace c.write.new.self) newest f p c.args.self.now.pieces.items c.in-Pieces.k c.index-piece.result.now c.as_slice.result.now (omega (arith, tick)) (let lt : c.in-Pieces.k < length c.args.self.now.pieces.items = search rules in lt) c.index-piece.ensures c.as_slice.ensures (c.in_default.ensures.wrote tells)
          (from_next g.V.VolumeFormat.format start opening before marks (disk_state g.D.Disk.image g.D.Disk.moment g.D.Disk.trace c.args.disk.now) newest f p c.args.self.now.pieces.items c.args.self.now.next (Pieces c.in-Pieces.k) c.in-Pieces.is s),
    )

pub returns-then-k-len-clause-elsewhere : goal.returns-then-k-len-clause-elsewhere
returns-then-k-len-clause-elsewhere g c =
    λ tells k out away. piece_elsewhere c.args.self.now.pieces.items c.in-Pieces.k c.index-piece.result.now c.as_slice.result.now (g.D.Disk.image c.args.disk.now) (g.D.Disk.image c.write.new.self) (let lt : c.in-Pieces.k < length c.args.self.now.pieces.items = search rules in lt) c.index-piece.ensures c.as_slice.ensures (c.in_default.ensures.wrote tells).others k out

pub returns-then-k-len-clause-time : goal.returns-then-k-len-clause-time
returns-then-k-len-clause-time g c =
    ticked (g.D.Disk.moment c.args.disk.now) (g.D.Disk.moment c.write.new.self) c.in_default.ensures.time c.in_default.ensures.end

pub returns-in-Err-sync_blocks-clause-steps : goal.returns-in-Err-sync_blocks-clause-steps
returns-in-Err-sync_blocks-clause-steps g c =
    λ tells laws start opening newest before f p marks plan s. (
      p,
      to_fault g.V.VolumeFormat.format start opening before marks (disk_state g.D.Disk.image g.D.Disk.moment g.D.Disk.trace c.sync_blocks.new.disk) newest f p c.args.self.now.pieces.items c.args.self.now.place c.args.self.now.header c.args.self.now.next (Pieces c.in-Pieces.k) c.in-Pieces.is plan
          (c.in-Err-sync_blocks.ensures.set_back tells laws start opening newest before f p (stage_of (Pieces c.in-Pieces.k) c.args.self.now.pieces.items) marks (from_next g.V.VolumeFormat.format start opening before marks (disk_state g.D.Disk.image g.D.Disk.moment g.D.Disk.trace c.args.disk.now) newest f p c.args.self.now.pieces.items c.args.self.now.next (Pieces c.in-Pieces.k) c.in-Pieces.is s)),
    )

pub returns-in_default-sync_blocks-clause-steps : goal.returns-in_default-sync_blocks-clause-steps
returns-in_default-sync_blocks-clause-steps g c =
    λ tells laws start opening newest before f p marks plan s. (
      progress_after_sync p,
      c.in_default-sync_blocks.ensures.secures tells laws start opening newest before f p marks
          (all_pieces g.V.VolumeFormat.format laws start opening before marks (disk_state g.D.Disk.image g.D.Disk.moment g.D.Disk.trace c.args.disk.now) newest f p c.args.self.now.pieces.items c.in-Pieces.k (let le : length c.args.self.now.pieces.items ≤ c.in-Pieces.k = search rules in le) (from_next g.V.VolumeFormat.format start opening before marks (disk_state g.D.Disk.image g.D.Disk.moment g.D.Disk.trace c.args.disk.now) newest f p c.args.self.now.pieces.items c.args.self.now.next (Pieces c.in-Pieces.k) c.in-Pieces.is s)),
    )

pub returns-in-Err-write_header-clause-steps : goal.returns-in-Err-write_header-clause-steps
returns-in-Err-write_header-clause-steps g c =
    λ tells laws start opening newest before f p marks plan s. (
      Sent,
      to_fault g.V.VolumeFormat.format start opening before marks (disk_state g.D.Disk.image g.D.Disk.moment g.D.Disk.trace c.write_header.new.disk) newest f Sent c.args.self.now.pieces.items c.args.self.now.place c.args.self.now.header c.args.self.now.next Header c.in-Header.is plan
          (c.in-Err-write_header.ensures.set_back tells laws start opening newest before f p marks plan.place_is (plan.header_is ∙ sym c.as_slice-in-Header.ensures) (from_next g.V.VolumeFormat.format start opening before marks (disk_state g.D.Disk.image g.D.Disk.moment g.D.Disk.trace c.args.disk.now) newest f p c.args.self.now.pieces.items c.args.self.now.next Header c.in-Header.is s)),
    )

pub returns-in_default-write_header-clause-steps : goal.returns-in_default-write_header-clause-steps
returns-in_default-write_header-clause-steps g c =
    λ tells laws start opening newest before f p marks plan s.
    c.in_default-write_header.ensures.sends tells laws start opening newest before f p marks plan.place_is (plan.header_is ∙ sym c.as_slice-in-Header.ensures) (from_next g.V.VolumeFormat.format start opening before marks (disk_state g.D.Disk.image g.D.Disk.moment g.D.Disk.trace c.args.disk.now) newest f p c.args.self.now.pieces.items c.args.self.now.next Header c.in-Header.is s)

pub returns-in-Err-sync_header-clause-steps : goal.returns-in-Err-sync_header-clause-steps
returns-in-Err-sync_header-clause-steps g c =
    λ tells laws start opening newest before f p marks plan s. (
      p,
      to_fault g.V.VolumeFormat.format start opening before marks (disk_state g.D.Disk.image g.D.Disk.moment g.D.Disk.trace c.sync_header.new.disk) newest f p c.args.self.now.pieces.items c.args.self.now.place c.args.self.now.header c.args.self.now.next Finish c.in-Finish.is plan
          (c.in-Err-sync_header.ensures.set_back tells laws start opening newest before f p Header_written marks (from_next g.V.VolumeFormat.format start opening before marks (disk_state g.D.Disk.image g.D.Disk.moment g.D.Disk.trace c.args.disk.now) newest f p c.args.self.now.pieces.items c.args.self.now.next Finish c.in-Finish.is s)),
    )

pub returns-in_default-sync_header-clause-steps : goal.returns-in_default-sync_header-clause-steps
returns-in_default-sync_header-clause-steps g c =
    λ tells laws start opening newest before f p marks plan s.
    c.in_default-sync_header.ensures.completes tells laws start opening newest before f p marks (from_next g.V.VolumeFormat.format start opening before marks (disk_state g.D.Disk.image g.D.Disk.moment g.D.Disk.trace c.args.disk.now) newest f p c.args.self.now.pieces.items c.args.self.now.next Finish c.in-Finish.is s)

pub returns-in-Err-clause-image : goal.returns-in-Err-clause-image
returns-in-Err-clause-image g c =
    λ tells. image_by_next c.args.self.now.pieces.items c.args.self.now.place c.args.self.now.header c.args.self.now.next (Pieces c.in-Pieces.k) (Err c.in-Err.fault) (g.D.Disk.image c.args.disk.now) (g.D.Disk.image c.write.new.self) c.in-Pieces.is
    (beside_piece c.args.self.now.pieces.items c.in-Pieces.k c.index-piece.result.now c.as_slice.result.now (g.D.Disk.image c.args.disk.now) (g.D.Disk.image c.write.new.self) (let lt : c.in-Pieces.k < length c.args.self.now.pieces.items = search rules in lt) c.index-piece.ensures c.as_slice.ensures (tried_outside _ _ _ _ _ _ _ (c.in-Err.ensures.failed tells)))

pub returns-then-k-len-clause-image : goal.returns-then-k-len-clause-image
returns-then-k-len-clause-image g c =
    λ tells. image_by_next c.args.self.now.pieces.items c.args.self.now.place c.args.self.now.header c.args.self.now.next (Pieces c.in-Pieces.k) (Ok Wrote) (g.D.Disk.image c.args.disk.now) (g.D.Disk.image c.write.new.self) c.in-Pieces.is
    (piece_laid c.args.self.now.pieces.items c.in-Pieces.k c.index-piece.result.now c.as_slice.result.now (g.D.Disk.image c.args.disk.now) (g.D.Disk.image c.write.new.self) (let lt : c.in-Pieces.k < length c.args.self.now.pieces.items = search rules in lt) c.index-piece.ensures c.as_slice.ensures (c.in_default.ensures.wrote tells).inside (c.in_default.ensures.wrote tells).others)

pub returns-in-Err-sync_blocks-clause-image : goal.returns-in-Err-sync_blocks-clause-image
returns-in-Err-sync_blocks-clause-image g c =
    λ tells. image_by_next c.args.self.now.pieces.items c.args.self.now.place c.args.self.now.header c.args.self.now.next (Pieces c.in-Pieces.k) (Err c.in-Err-sync_blocks.fault) (g.D.Disk.image c.args.disk.now) (g.D.Disk.image c.sync_blocks.new.disk) c.in-Pieces.is
    (beside_no_piece c.args.self.now.pieces.items c.in-Pieces.k (g.D.Disk.image c.args.disk.now) (g.D.Disk.image c.sync_blocks.new.disk) (let le : length c.args.self.now.pieces.items ≤ c.in-Pieces.k = search rules in le) (c.in-Err-sync_blocks.ensures.image tells))

pub returns-in_default-sync_blocks-clause-image : goal.returns-in_default-sync_blocks-clause-image
returns-in_default-sync_blocks-clause-image g c =
    λ tells. image_by_next c.args.self.now.pieces.items c.args.self.now.place c.args.self.now.header c.args.self.now.next (Pieces c.in-Pieces.k) (Ok Synced) (g.D.Disk.image c.args.disk.now) (g.D.Disk.image c.sync_blocks.new.disk) c.in-Pieces.is
    (no_piece_laid c.args.self.now.pieces.items c.in-Pieces.k (g.D.Disk.image c.args.disk.now) (g.D.Disk.image c.sync_blocks.new.disk) (let le : length c.args.self.now.pieces.items ≤ c.in-Pieces.k = search rules in le) (c.in_default-sync_blocks.ensures.image tells))

pub returns-in-Err-write_header-clause-image : goal.returns-in-Err-write_header-clause-image
returns-in-Err-write_header-clause-image g c =
    λ tells. image_by_next c.args.self.now.pieces.items c.args.self.now.place c.args.self.now.header c.args.self.now.next Header (Err c.in-Err-write_header.fault) (g.D.Disk.image c.args.disk.now) (g.D.Disk.image c.write_header.new.disk) c.in-Header.is
    (subst (λ (z : List ℕ). SameOutside c.args.self.now.place (length z) (g.D.Disk.image c.args.disk.now) (g.D.Disk.image c.write_header.new.disk)) c.as_slice-in-Header.ensures (c.in-Err-write_header.ensures.elsewhere tells))

pub returns-in_default-write_header-clause-image : goal.returns-in_default-write_header-clause-image
returns-in_default-write_header-clause-image g c =
    λ tells. image_by_next c.args.self.now.pieces.items c.args.self.now.place c.args.self.now.header c.args.self.now.next Header (Ok Out) (g.D.Disk.image c.args.disk.now) (g.D.Disk.image c.write_header.new.disk) c.in-Header.is
    (header_laid c.args.self.now.place c.args.self.now.header c.as_slice-in-Header.result.now (g.D.Disk.image c.args.disk.now) (g.D.Disk.image c.write_header.new.disk) c.as_slice-in-Header.ensures (c.in_default-write_header.ensures.writes tells).inside (c.in_default-write_header.ensures.writes tells).others)

pub returns-in-Err-sync_header-clause-image : goal.returns-in-Err-sync_header-clause-image
returns-in-Err-sync_header-clause-image g c =
    λ tells. image_by_next c.args.self.now.pieces.items c.args.self.now.place c.args.self.now.header c.args.self.now.next Finish (Err c.in-Err-sync_header.fault) (g.D.Disk.image c.args.disk.now) (g.D.Disk.image c.sync_header.new.disk) c.in-Finish.is (c.in-Err-sync_header.ensures.image tells)

pub returns-in_default-sync_header-clause-image : goal.returns-in_default-sync_header-clause-image
returns-in_default-sync_header-clause-image g c =
    λ tells. image_by_next c.args.self.now.pieces.items c.args.self.now.place c.args.self.now.header c.args.self.now.next Finish (Ok Done) (g.D.Disk.image c.args.disk.now) (g.D.Disk.image c.sync_header.new.disk) c.in-Finish.is (c.in_default-sync_header.ensures.image tells)
