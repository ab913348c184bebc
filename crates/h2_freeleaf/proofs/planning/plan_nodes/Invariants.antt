use Rattle.std.proofs.Common.{◌≡◌, ◌++◌, suc}
use Rattle.h2_freeleaf.specs.Plan.{IsLevel, blocks_of, places_of, level_places}
use Rattle.h2_freeleaf.proofs.planning.plan_nodes.Given as goal

abbrev pub invariant-loop-i : goal.invariant-loop-i
invariant-loop-i l = record {
  below : IsLevel l.m.zones l.number l.m.segments l.level (blocks_of l.m.zones l.level) l.writes.items l.below;
  level : IsLevel l.m.zones l.number l.m.segments (suc l.level) l.i l.writes.items l.refs.items;
  order : places_of l.writes.items ≡ places_of l.fn.writes.items ++ level_places l.number (suc l.level) l.i;
}
