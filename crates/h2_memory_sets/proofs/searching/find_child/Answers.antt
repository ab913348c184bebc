use Rattle.std.proofs.Common.{sym, ◌∙◌}
use Rattle.h2_memory_sets.proofs.Hinted.{hinted}
use Rattle.h2_memory_sets.proofs.searching.find_child.Goals as goal

pub returns-then-is_hinted : goal.returns-then-is_hinted
returns-then-is_hinted c = sym (hinted c.args.nodes.now c.args.at c.args.key c.args.hint c.requires.one (sym c.is_hinted.ensures ∙ c.if-is_hinted.true))
