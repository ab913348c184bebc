use Rattle.std.proofs.Common.{All, take}
use Rattle.h2_dirkey.specs.Name.{IsName}
use Rattle.h2_command.proofs.lawful.are_names.Given as goal

abbrev pub invariant-loop-name : goal.invariant-loop-name
invariant-loop-name l = All IsName (take l.name-index l.names)
