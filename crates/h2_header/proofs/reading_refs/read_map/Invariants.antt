use Rattle.h2_num.specs.Places.{places}
use Rattle.h2_header.proofs.Pieces.{MapsTo}
use Rattle.h2_header.proofs.reading_refs.read_map.Given as goal

abbrev pub invariant-loop-i : goal.invariant-loop-i
invariant-loop-i l = MapsTo (places l.b) l.zones l.number l.refs l.i
