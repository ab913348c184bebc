use Rattle.h2_cmd.proofs.Slots.{newest_some}
use Rattle.h2_cmd.proofs.formatting.newest_number.Goals as goal

pub returns-in-Some-headers : goal.returns-in-Some-headers
returns-in-Some-headers c = λ image are. newest_some image c.args.headers.now c.in-Some.slot c.in-Some-headers.header c.in-Some.ensures c.in-Some-headers.is are
