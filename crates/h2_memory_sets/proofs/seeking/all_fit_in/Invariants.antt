use Rattle.std.proofs.Common.{◌≡◌, ◌<◌, ℕ, Some, slice_get}
use Rattle.h2_ref.specs.declared.reference.Ref.{Ref}
use Rattle.h2_memory_sets.specs.View.{FitsBelow, range_of}
use Rattle.h2_memory_sets.proofs.seeking.all_fit_in.Given as goal

abbrev pub invariant-loop-i : goal.invariant-loop-i
invariant-loop-i l = (j : ℕ) (r : Ref) → j < l.i → slice_get l.set.refs j ≡ Some r → FitsBelow (range_of l.x) (Some l.x) r
