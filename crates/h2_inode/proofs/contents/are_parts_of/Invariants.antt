use Rattle.std.proofs.Common.{ℕ, ◌<◌}
use Rattle.std.specs.Prelude.{slice_index_or}
use Rattle.h2_ref.specs.declared.reference.Ref.{Ref}
use Rattle.h2_inode.specs.Inode.{IsPartOf}
use Rattle.h2_inode.proofs.contents.are_parts_of.Given as goal

abbrev pub invariant-loop-i : goal.invariant-loop-i
invariant-loop-i l = (k : ℕ) (d : Ref) → k < l.i → IsPartOf l.kind l.size (slice_index_or l.set.refs k d)
