use Rattle.std.proofs.Common.{All, take}
use Rattle.h2_command.specs.Lawful.{IsLawfulItem}
use Rattle.h2_command.proofs.history.History.is_lawful.Given as goal

abbrev pub invariant-loop-item : goal.invariant-loop-item
invariant-loop-item l = All IsLawfulItem (take l.item-index l.item-items)
