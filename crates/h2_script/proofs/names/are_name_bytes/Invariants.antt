use Rattle.std.proofs.Common.{All, take}
use Rattle.h2_script.specs.Names.{IsNameByte}
use Rattle.h2_script.proofs.names.are_name_bytes.Given as goal

abbrev pub invariant-loop-byte : goal.invariant-loop-byte
invariant-loop-byte l = All IsNameByte (take l.byte-index l.bytes)
