use Rattle.std.proofs.Common.{MatchOption}
use Rattle.h2_header.specs.Newest.{IsNewestOf, NoneOf}
use Rattle.h2_header.proofs.choosing.newest.Given as goal

abbrev pub invariant-loop-slot : goal.invariant-loop-slot
invariant-loop-slot l = MatchOption l.so_far (NoneOf l.slot l.h) (IsNewestOf l.slot l.h)
