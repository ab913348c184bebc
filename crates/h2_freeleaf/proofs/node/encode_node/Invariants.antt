use Rattle.std.proofs.Common.{◌≡◌, length}
use Rattle.h2_num.specs.Places.{places}
use Rattle.h2_ref.specs.Ref.{RefBytes}
use Rattle.h2_freeleaf.proofs.Parts.{Spelled}
use Rattle.h2_freeleaf.proofs.node.encode_node.Given as goal

abbrev pub invariant-loop-i : goal.invariant-loop-i
invariant-loop-i l = record {
  size : length l.out ≡ 1024;
  bytes : Spelled RefBytes l.r (places l.out) l.i;
}
