use Rattle.std.proofs.Common.{arith}
use Rattle.h2_script.proofs.WordFaults.{no_size}
use Rattle.h2_script.proofs.arguments.handle_and_size.Goals as goal

pub returns-in_default-read_place : goal.returns-in_default-read_place
returns-in_default-read_place c = no_size c.args.words.now _ c.in-Some.handle (omega arith) c.in-Some.ensures c.in_default-read_place.ensures
