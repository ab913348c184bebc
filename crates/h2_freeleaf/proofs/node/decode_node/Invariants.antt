use Rattle.h2_num.specs.Places.{places}
use Rattle.h2_ref.specs.Ref.{IsValid, RefBytes}
use Rattle.h2_freeleaf.proofs.Parts.{ReadTo}
use Rattle.h2_freeleaf.proofs.node.decode_node.Given as goal

abbrev pub invariant-loop-i : goal.invariant-loop-i
invariant-loop-i l = ReadTo IsValid RefBytes (places l.b) l.refs l.i
