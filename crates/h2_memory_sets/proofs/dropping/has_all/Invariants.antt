use Rattle.std.proofs.Common.{◌≡◌, ◌<◌, ℕ, Some, slice_get, false}
use Rattle.h2_ref.specs.declared.reference.Ref.{Ref}
use Rattle.h2_memory_sets.specs.View.{lacks}
use Rattle.h2_memory_sets.proofs.dropping.has_all.Given as goal

abbrev pub invariant-loop-i : goal.invariant-loop-i
invariant-loop-i l = (j : ℕ) (q : Ref) → j < l.i → slice_get l.old.refs j ≡ Some q → lacks l.new.refs q ≡ false
