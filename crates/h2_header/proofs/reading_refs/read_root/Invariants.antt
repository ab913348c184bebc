use Rattle.h2_num.specs.Places.{places}
use Rattle.h2_header.proofs.Pieces.{RootsTo}
use Rattle.h2_header.proofs.reading_refs.read_root.Given as goal

abbrev pub invariant-loop-i : goal.invariant-loop-i
invariant-loop-i l = RootsTo (places l.b) l.refs l.before l.i
