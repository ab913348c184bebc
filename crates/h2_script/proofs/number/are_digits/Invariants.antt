use Rattle.std.proofs.Common.{All, take}
use Rattle.h2_script.specs.Numbers.{IsDigit}
use Rattle.h2_script.proofs.number.are_digits.Given as goal

abbrev pub invariant-loop-byte : goal.invariant-loop-byte
invariant-loop-byte l = All IsDigit (take l.byte-index l.word)
