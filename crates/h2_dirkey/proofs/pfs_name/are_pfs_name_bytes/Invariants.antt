use Rattle.std.proofs.Common.{All, take}
use Rattle.h2_dirkey.specs.PfsName.{IsPfsNameByte}
use Rattle.h2_dirkey.proofs.pfs_name.are_pfs_name_bytes.Given as goal

abbrev pub invariant-loop-byte : goal.invariant-loop-byte
invariant-loop-byte l = All IsPfsNameByte (take l.byte-index l.bytes)
