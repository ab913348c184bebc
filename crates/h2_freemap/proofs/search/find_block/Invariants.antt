use Rattle.std.proofs.Common.{◌≢◌, ◌<◌, ℕ, slice_index_or}
use Rattle.h2_num.specs.declared.block.Block.{Block}
use Rattle.h2_freemap.proofs.search.find_block.Given as goal

abbrev pub invariant-loop-at : goal.invariant-loop-at
invariant-loop-at l = (k : ℕ) (d : Block) → k < l.at → slice_index_or l.blocks k d ≢ l.block
