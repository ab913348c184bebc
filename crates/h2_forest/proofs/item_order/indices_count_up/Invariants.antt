use Rattle.std.proofs.Common.{ℕ, ◌<◌}
use Rattle.h2_forest.specs.History.{CountsUp}
use Rattle.h2_forest.proofs.item_order.indices_count_up.Given as goal

abbrev pub invariant-loop-client : goal.invariant-loop-client
invariant-loop-client l = (other : ℕ) → other < l.client → CountsUp other l.items
