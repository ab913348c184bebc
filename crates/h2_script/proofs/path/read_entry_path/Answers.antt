use Rattle.std.proofs.Common.{refl}
use Rattle.h2_script.proofs.Paths.{nameless, empty_by_test}
use Rattle.h2_script.proofs.path.read_entry_path.Goals as goal

pub returns-then-is_empty : goal.returns-then-is_empty
returns-then-is_empty c = (refl, nameless c.args.word.now c.in_ok-path.path c.in_ok-path.ensures (empty_by_test c.items.result.now _ c.is_empty.result c.items.ensures c.is_empty.ensures c.if-is_empty.true))
