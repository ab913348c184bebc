use Rattle.std.proofs.Common.{◌≡◌, ℕ, ◌<◌, ◌+◌, length}
use Rattle.std.specs.Prelude.{slice_index, cond, ◌&&◌, nat_le, nat_lt}
use Rattle.h2_contents.proofs.payload.lay_repeated.Given as goal

abbrev pub invariant-loop-at : goal.invariant-loop-at
invariant-loop-at l = (j : ℕ) → j < length l.window → slice_index l.window j ≡ cond (nat_le l.from (l.start + j) && nat_lt (l.start + j) l.at) l.byte (slice_index l.fn.window j)
