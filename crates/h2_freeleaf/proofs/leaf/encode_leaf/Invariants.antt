use Rattle.std.proofs.Common.{◌≡◌, length}
use Rattle.std.specs.List.{AllWithin}
use Rattle.h2_num.specs.Places.{places}
use Rattle.h2_codes.specs.Codes.{IsSegment}
use Rattle.h2_freeleaf.specs.Leaf.{PartBytes}
use Rattle.h2_freeleaf.proofs.Parts.{Spelled}
use Rattle.h2_freeleaf.proofs.leaf.encode_leaf.Given as goal

abbrev pub invariant-loop-i : goal.invariant-loop-i
invariant-loop-i l = record {
  size : length l.out ≡ 1024;
  each : AllWithin IsSegment l.s 0 l.i;
  bytes : Spelled PartBytes l.s (places l.out) l.i;
}
