use Rattle.h2_freemap.specs.Made.{AreFresh}
use Rattle.h2_freemap.proofs.making.fresh_segments.Given as goal

abbrev pub invariant-loop-s : goal.invariant-loop-s
invariant-loop-s l = AreFresh l.s l.segments.items
