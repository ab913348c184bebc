use Rattle.std.proofs.Common.{◌≡◌, ◌++◌, []}
use Rattle.h2_freeleaf.specs.Plan.{IsLevel, places_of, level_places}
use Rattle.h2_freeleaf.proofs.planning.plan_leaves.Given as goal

abbrev pub invariant-loop-zone : goal.invariant-loop-zone
invariant-loop-zone l = record {
  level : IsLevel l.m.zones l.number l.m.segments 0 l.zone l.writes.items l.refs.items;
  order : places_of l.writes.items ≡ [] ++ level_places l.number 0 l.zone;
}
