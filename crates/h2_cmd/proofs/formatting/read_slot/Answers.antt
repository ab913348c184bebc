use Rattle.std.proofs.Common.{◌≡◌, length, rules}
use Rattle.h2_num.specs.Places.{places, SameBelow}
use Rattle.h2_checkpoint.specs.Slots.{slot_bytes}
use Rattle.h2_cmd.proofs.Slots.{slot_found}
use Rattle.h2_cmd.proofs.formatting.read_slot.Goals as goal

pub returns-clause-header : goal.returns-clause-header
returns-clause-header g c = λ tells.
    let long : length c.read.new.buf ≡ 65536 = search rules in
    let same : SameBelow 65536 (slot_bytes (g.D.Disk.image c.args.disk.now) c.args.slot) (places c.read.new.buf) = rw c.header_place.ensures at (rw long at (c.in_default.ensures.bytes tells)) in
    slot_found (g.D.Disk.image c.args.disk.now) (places c.read.new.buf) c.args.slot c.read_from.result c.ok.result c.ok.ensures.value same c.read_from.ensures.found c.read_from.ensures.none
