use Rattle.std.proofs.Common.{ℕ, ◌<◌, slice_index_or}
use Rattle.std.specs.List.{Contains}
use Rattle.h2_num.specs.declared.block.Block.{Block}
use Rattle.h2_plain_ledger.proofs.blocks.all_in.Given as goal

abbrev pub invariant-loop-block : goal.invariant-loop-block
invariant-loop-block l = (k : ℕ) (d : Block) → k < l.block-index → Contains l.others (slice_index_or l.blocks k d)
