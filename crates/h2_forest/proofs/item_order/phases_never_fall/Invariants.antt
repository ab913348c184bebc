use Rattle.std.proofs.Common.{drop}
use Rattle.std.specs.Prelude.{◌↔◌}
use Rattle.h2_forest.specs.History.{Each, IsFrom, or_later, phase_of, NeverFalls}
use Rattle.h2_forest.proofs.item_order.phases_never_fall.Given as goal

abbrev pub invariant-loop-item : goal.invariant-loop-item
invariant-loop-item l = Each (λ low x. IsFrom low (phase_of x)) (λ low x. or_later low (phase_of x)) l.low (drop l.item-index l.items) ↔ NeverFalls phase_of l.items
