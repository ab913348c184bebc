use Rattle.std.proofs.Common.{◌≡◌, map, take}
use Rattle.h2_script.specs.Texts.{entries_of}
use Rattle.h2_script.proofs.printing.entries_of.Given as goal

abbrev pub invariant-loop-item : goal.invariant-loop-item
invariant-loop-item l = map (λ e. e.now) l.entries.items ≡ entries_of (take l.item-index l.items)
