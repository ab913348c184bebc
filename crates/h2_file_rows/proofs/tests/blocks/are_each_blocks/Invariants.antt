use Rattle.std.proofs.Common.{◌≡◌, ◌<◌, ℕ, Some, slice_get}
use Rattle.h2_ref.specs.declared.reference.Ref.{Ref}
use Rattle.h2_file.specs.Linking.{IsBlock}
use Rattle.h2_file_rows.proofs.tests.blocks.are_each_blocks.Given as goal

abbrev pub invariant-loop-i : goal.invariant-loop-i
invariant-loop-i l = (j : ℕ) (r : Ref) → j < l.i → slice_get l.refs j ≡ Some r → IsBlock r
