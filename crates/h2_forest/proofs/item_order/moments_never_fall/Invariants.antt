use Rattle.std.proofs.Common.{drop}
use Rattle.std.specs.Prelude.{◌↔◌}
use Rattle.h2_forest.specs.History.{Each, IsFrom, or_later, moment_of, NeverFalls}
use Rattle.h2_forest.proofs.item_order.moments_never_fall.Given as goal

abbrev pub invariant-loop-item : goal.invariant-loop-item
invariant-loop-item l = Each (λ low x. IsFrom low (moment_of x)) (λ low x. or_later low (moment_of x)) l.low (drop l.item-index l.items) ↔ NeverFalls moment_of l.items
