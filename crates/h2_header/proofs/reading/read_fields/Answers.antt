use Rattle.h2_num.specs.Places.{places}
use Rattle.h2_header.specs.FaultLaws.{wrong_root, none_before_map, wrong_map, wrong_tail}
use Rattle.h2_header.proofs.Found.{fields_found}
use Rattle.h2_header.proofs.reading.read_fields.Goals as goal

pub returns-in-Err-clause-wrong : goal.returns-in-Err-clause-wrong
returns-in-Err-clause-wrong c = wrong_root c.args.slot (places c.args.b.now) c.in-Err.at c.in_default.ensures.right c.in_default-wrong_zero.ensures.right c.in-Err.ensures.wrong

pub returns-in-Err-read_map-clause-wrong : goal.returns-in-Err-read_map-clause-wrong
returns-in-Err-read_map-clause-wrong c =
    wrong_map c.args.slot (places c.args.b.now) c.in-Err-read_map.at
    (none_before_map c.args.slot (places c.args.b.now) c.in-Ok.root c.in_default.ensures.right c.in_default-wrong_zero.ensures.right c.in-Ok.ensures.root c.in-Ok.ensures.spelled)
    c.in-Err-read_map.ensures.wrong

pub returns-in-Some-wrong_zero-2-clause-wrong : goal.returns-in-Some-wrong_zero-2-clause-wrong
returns-in-Some-wrong_zero-2-clause-wrong c =
    wrong_tail c.args.slot (places c.args.b.now) c.get32-zones.result c.get64-map_number.result c.in-Some-wrong_zero-2.at c.in-Ok-read_map.map
    (none_before_map c.args.slot (places c.args.b.now) c.in-Ok.root c.in_default.ensures.right c.in_default-wrong_zero.ensures.right c.in-Ok.ensures.root c.in-Ok.ensures.spelled)
    c.get32-zones.ensures c.get64-map_number.ensures c.in-Ok-read_map.ensures.map c.in-Ok-read_map.ensures.spelled c.in-Some-wrong_zero-2.ensures.wrong

pub returns-clause-right : goal.returns-clause-right
returns-clause-right c =
    fields_found c.args.slot (places c.args.b.now) _ c.in_default.ensures.right c.in_default-wrong_zero.ensures.right c.in_default-wrong_zero-2.ensures.right
    c.get32-zones.ensures c.get64.ensures c.get64-map_number.ensures c.get64-2.ensures c.in-Ok.ensures.root c.in-Ok.ensures.spelled c.in-Ok-read_map.ensures.map c.in-Ok-read_map.ensures.spelled
