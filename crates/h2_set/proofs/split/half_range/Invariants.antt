use Rattle.std.proofs.Common.{◌≡◌, ℕ, ◌<◌, ◌*◌, ◌/◌, ◌^◌, Some, slice_get}
use Rattle.std.specs.Prelude.{count_by}
use Rattle.h2_ref.specs.declared.reference.Ref.{Ref}
use Rattle.h2_set.specs.Ranges.{lies}
use Rattle.h2_set.proofs.split.half_range.Given as goal

abbrev pub invariant-loop-r : goal.invariant-loop-r
invariant-loop-r l = (j : ℕ) (q : Ref) → j < l.r-index → slice_get l.all j ≡ Some q → count_by (lies (q.key / 2 ^ l.bits * 2 ^ l.bits) l.bits) l.all < l.half
