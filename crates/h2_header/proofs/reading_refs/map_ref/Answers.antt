use Rattle.h2_num.specs.Places.{places}
use Rattle.h2_header.proofs.Pieces.{not_slot}
use Rattle.h2_header.proofs.reading_refs.map_ref.Goals as goal

pub returns-else-is_map_slot-clause-wrong : goal.returns-else-is_map_slot-clause-wrong
returns-else-is_map_slot-clause-wrong c =
    not_slot (places c.args.b.now) c.args.i c.args.zones c.args.number c.in-Some.r c.is_map_slot.result c.requires.zones c.requires.number
    c.in-Some.ensures.found.0 c.in-Some.ensures.found.1 c.is_map_slot.ensures c.if-is_map_slot.false
