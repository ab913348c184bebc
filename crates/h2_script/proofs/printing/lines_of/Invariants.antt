use Rattle.std.proofs.Common.{◌≡◌, map, take}
use Rattle.std.specs.List.{flat_map}
use Rattle.h2_script.specs.Texts.{line_of}
use Rattle.h2_script.proofs.printing.lines_of.Given as goal

abbrev pub invariant-loop-entry : goal.invariant-loop-entry
invariant-loop-entry l = l.text.items ≡ flat_map line_of (map (λ e. e.now) (take l.entry-index l.entries))
