use Rattle.std.proofs.Common.{◌≡◌, ℕ, ◌<◌, length}
use Rattle.std.specs.Prelude.{slice_index, cond, ◌&&◌, nat_le, nat_lt}
use Rattle.h2_contents.proofs.page.clear_from.Given as goal

abbrev pub invariant-loop-k : goal.invariant-loop-k
invariant-loop-k l = (j : ℕ) → j < length l.window → slice_index l.window j ≡ cond (nat_le l.from j && nat_lt j l.k) 0 (slice_index l.fn.window j)
