use Rattle.h2_script.proofs.Payloads.{uncut_no_data, no_kind_no_data, repeat_is_data}
use Rattle.h2_script.proofs.payload.read_payload.Goals as goal

pub returns-in_default : goal.returns-in_default
returns-in_default c = uncut_no_data c.args.word.now c.in_default.ensures

pub returns-in-r : goal.returns-in-r
returns-in-r c = repeat_is_data c.args.word.now _ _ c.read_repeat.result c.in-Some.ensures c.in-r.is c.read_repeat.ensures

pub returns-in_default-kind : goal.returns-in_default-kind
returns-in_default-kind c = no_kind_no_data c.args.word.now _ _ c.in-Some.ensures c.in_default-kind.not-x c.in_default-kind.not-r
