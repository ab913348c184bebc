use Rattle.std.proofs.Common.{◌≡◌, drop}
use Rattle.std.specs.Prelude.{◌↔◌}
use Rattle.h2_forest.specs.History.{Each, after, IsPassItem, after_pass_item}
use Rattle.h2_forest.specs.HistoryLaws.{SumsFit}
use Rattle.h2_forest.specs.declared.legality.Pass.TheVariants.{Idle}
use Rattle.h2_forest.proofs.pass_order.passes_are_in_order.Given as goal

abbrev pub invariant-loop-item : goal.invariant-loop-item
invariant-loop-item l = record {
  fit : SumsFit l.pass;
  each : Each (IsPassItem l.opening.segments) after_pass_item l.pass (drop l.item-index l.items) ↔ Each (IsPassItem l.opening.segments) after_pass_item Idle l.items;
  last : after after_pass_item l.pass (drop l.item-index l.items) ≡ after after_pass_item Idle l.items;
}
