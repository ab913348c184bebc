use Rattle.std.proofs.Common.{drop}
use Rattle.std.specs.Prelude.{◌↔◌}
use Rattle.h2_forest.specs.History.{Each, IsRise, io_of, risen, FaultsRise}
use Rattle.h2_forest.proofs.item_order.faults_rise.Given as goal

abbrev pub invariant-loop-item : goal.invariant-loop-item
invariant-loop-item l = Each (λ floor x. IsRise floor (io_of x)) (λ floor x. risen floor (io_of x)) l.floor (drop l.item-index l.items) ↔ FaultsRise l.items
