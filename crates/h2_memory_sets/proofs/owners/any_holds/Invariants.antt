use Rattle.std.proofs.Common.{◌≡◌, ◌<◌, ℕ, Some, slice_get, false}
use Rattle.h2_ref.specs.declared.reference.Ref.{Ref}
use Rattle.h2_set.specs.Ranges.{holds}
use Rattle.h2_memory_sets.proofs.owners.any_holds.Given as goal

abbrev pub invariant-loop-i : goal.invariant-loop-i
invariant-loop-i l = (j : ℕ) (r : Ref) → j < l.i → slice_get l.set.refs j ≡ Some r → holds l.key r ≡ false
