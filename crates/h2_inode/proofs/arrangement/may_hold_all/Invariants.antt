use Rattle.std.proofs.Common.{◌≡◌, ℕ, ◌<◌, true}
use Rattle.std.specs.Prelude.{slice_index_or}
use Rattle.h2_ref.specs.declared.reference.Ref.{Ref}
use Rattle.h2_set.specs.Ranges.{lies}
use Rattle.h2_inode.specs.Block.{Falls}
use Rattle.h2_inode.proofs.arrangement.may_hold_all.Given as goal

abbrev pub invariant-loop-i : goal.invariant-loop-i
invariant-loop-i l = (k : ℕ) (d : Ref) → k < l.i → (lies l.r.key l.r.keybits (slice_index_or l.set.refs k d) ≡ true) × Falls l.r (slice_index_or l.set.refs k d)
