-- The parts of what makes a history legal, as tests.
use Rattle.std.specs.Prelude.{Bool, ◌&&◌}
use Rattle.h2_forest.specs.declared.legality.Legality.{Legality}

-- all parts hold
abbrev pub all_hold : Legality → Bool
all_hold l = l.replies && (l.faults && (l.indices && (l.phases && (l.flushes && (l.moments && (l.scans && l.passes))))))
