use Rattle.h2_num.specs.Places.{places}
use Rattle.h2_codes.specs.Codes.{IsSegment}
use Rattle.h2_freeleaf.specs.Leaf.{PartBytes}
use Rattle.h2_freeleaf.proofs.Parts.{ReadTo}
use Rattle.h2_freeleaf.proofs.leaf.decode_leaf.Given as goal

abbrev pub invariant-loop-i : goal.invariant-loop-i
invariant-loop-i l = ReadTo IsSegment PartBytes (places l.b) l.segments l.i
