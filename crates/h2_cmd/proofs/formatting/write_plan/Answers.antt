use Rattle.std.proofs.Common.{◌≡◌, ◌+◌, List, length, ap, sym, subst, arith, rules}
use Rattle.h2_checkpoint.specs.declared.piece.Piece.{Piece}
use Rattle.h2_checkpoint.specs.Stands.{disk_state}
use Rattle.h2_image.specs.NewVolume.{map_block_count}
use Rattle.h2_cmd.specs.Planning.{IsPlanned}
use Rattle.h2_cmd.proofs.FirstPlan.{planned_header_valid}
use Rattle.h2_cmd.proofs.Written.{pieces_fit, piece_count, made_volume, cuts_volume, elsewhere}
use Rattle.h2_cmd.proofs.formatting.write_plan.Goals as goal

pub write_into-requires-clause-valid : goal.write_into-requires-clause-valid
write_into-requires-clause-valid g c = planned_header_valid c.args.zones c.args.plan.now.pieces.items c.args.plan.now.header c.requires.planned

pub make-requires-clause-pieces_fit : goal.make-requires-clause-pieces_fit
make-requires-clause-pieces_fit g c =
    let planned : IsPlanned c.args.zones c.deref.result.now c.args.plan.now.header = subst (λ (x : List Piece). IsPlanned c.args.zones x c.args.plan.now.header) (sym c.deref.ensures.value) c.requires.planned in
    pieces_fit c.args.zones c.deref.result.now c.args.plan.now.header planned

pub returns-in-Err-clause-cuts : goal.returns-in-Err-clause-cuts
returns-in-Err-clause-cuts g c = λ tells durable none.
    let planned : IsPlanned c.args.zones c.deref.result.now c.args.plan.now.header = subst (λ (x : List Piece). IsPlanned c.args.zones x c.args.plan.now.header) (sym c.deref.ensures.value) c.requires.planned in
    let long : length c.write_into.new.out ≡ 65536 = search rules in
    cuts_volume c.args.zones c.deref.result.now c.args.plan.now.header planned (disk_state g.D.Disk.image g.D.Disk.moment g.D.Disk.trace c.args.disk.now) (disk_state g.D.Disk.image g.D.Disk.moment g.D.Disk.trace c.make.new.disk)
    c.write_into.new.out long c.write_into.ensures (c.in-Err.ensures.cuts tells) durable none

pub returns-in-Err-clause-elsewhere : goal.returns-in-Err-clause-elsewhere
returns-in-Err-clause-elsewhere g c = λ tells.
    let planned : IsPlanned c.args.zones c.deref.result.now c.args.plan.now.header = subst (λ (x : List Piece). IsPlanned c.args.zones x c.args.plan.now.header) (sym c.deref.ensures.value) c.requires.planned in
    let long : length c.write_into.new.out ≡ 65536 = search rules in
    elsewhere c.args.zones c.deref.result.now c.args.plan.now.header planned (g.D.Disk.image c.args.disk.now) (g.D.Disk.image c.make.new.disk) (length c.write_into.new.out) long (c.in-Err.ensures.elsewhere tells)

pub returns-clause-cuts : goal.returns-clause-cuts
returns-clause-cuts g c = λ tells durable none.
    let planned : IsPlanned c.args.zones c.deref.result.now c.args.plan.now.header = subst (λ (x : List Piece). IsPlanned c.args.zones x c.args.plan.now.header) (sym c.deref.ensures.value) c.requires.planned in
    let long : length c.write_into.new.out ≡ 65536 = search rules in
    cuts_volume c.args.zones c.deref.result.now c.args.plan.now.header planned (disk_state g.D.Disk.image g.D.Disk.moment g.D.Disk.trace c.args.disk.now) (disk_state g.D.Disk.image g.D.Disk.moment g.D.Disk.trace c.make.new.disk)
    c.write_into.new.out long c.write_into.ensures (c.in_default.ensures.cuts tells) durable none

pub returns-clause-elsewhere : goal.returns-clause-elsewhere
returns-clause-elsewhere g c = λ tells.
    let planned : IsPlanned c.args.zones c.deref.result.now c.args.plan.now.header = subst (λ (x : List Piece). IsPlanned c.args.zones x c.args.plan.now.header) (sym c.deref.ensures.value) c.requires.planned in
    let long : length c.write_into.new.out ≡ 65536 = search rules in
    elsewhere c.args.zones c.deref.result.now c.args.plan.now.header planned (g.D.Disk.image c.args.disk.now) (g.D.Disk.image c.make.new.disk) (length c.write_into.new.out) long (c.in_default.ensures.elsewhere tells)

pub returns-clause-made : goal.returns-clause-made
returns-clause-made g c = λ tells none.
    let planned : IsPlanned c.args.zones c.deref.result.now c.args.plan.now.header = subst (λ (x : List Piece). IsPlanned c.args.zones x c.args.plan.now.header) (sym c.deref.ensures.value) c.requires.planned in
    let long : length c.write_into.new.out ≡ 65536 = search rules in
    made_volume c.args.zones c.deref.result.now c.args.plan.now.header planned (disk_state g.D.Disk.image g.D.Disk.moment g.D.Disk.trace c.args.disk.now) (disk_state g.D.Disk.image g.D.Disk.moment g.D.Disk.trace c.make.new.disk)
    c.write_into.new.out none long c.write_into.ensures (c.in_default.ensures.makes tells) (c.in_default.ensures.durable tells)

pub returns-clause-time : goal.returns-clause-time
returns-clause-time g c =
    let count : length c.args.plan.now.pieces.items ≡ map_block_count c.args.zones + 2 = piece_count c.args.zones c.args.plan.now.pieces.items c.args.plan.now.header c.requires.planned in
    let same : length c.deref.result.now ≡ length c.args.plan.now.pieces.items = ap length c.deref.ensures.value in
    let time = c.in_default.ensures.time in
    omega arith
