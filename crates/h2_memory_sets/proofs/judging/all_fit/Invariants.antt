use Rattle.std.proofs.Common.{◌≡◌, ◌<◌, ℕ, Some, slice_get}
use Rattle.h2_ref.specs.declared.reference.Ref.{Ref}
use Rattle.h2_memory_sets.specs.View.{FitsBelow}
use Rattle.h2_memory_sets.proofs.judging.all_fit.Given as goal

abbrev pub invariant-loop-i : goal.invariant-loop-i
invariant-loop-i l = (j : ℕ) (r : Ref) → j < l.i → slice_get l.set.refs j ≡ Some r → FitsBelow l.top (Some l.root) r
