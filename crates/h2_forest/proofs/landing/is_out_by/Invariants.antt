use Rattle.std.proofs.Common.{◌≡◌, drop}
use Rattle.std.specs.List.{list_any}
use Rattle.h2_forest.specs.Landing.{is_out_item}
use Rattle.h2_forest.proofs.landing.is_out_by.Given as goal

abbrev pub invariant-loop-item : goal.invariant-loop-item
invariant-loop-item l = list_any (is_out_item l.moment l.number) (drop l.item-index l.items) ≡ list_any (is_out_item l.moment l.number) l.items
