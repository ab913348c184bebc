use Rattle.std.proofs.Common.{◌≡◌, All, take, map}
use Rattle.h2_script.specs.Names.{IsEntryName}
use Rattle.h2_script.proofs.names.copy_names.Given as goal

abbrev pub invariant-loop-part : goal.invariant-loop-part
invariant-loop-part l = (l.names ≡ map (λ part. part.now) (take l.part-index l.parts)) × All IsEntryName l.names
