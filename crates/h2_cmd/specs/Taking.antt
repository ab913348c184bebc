-- Where the blocks of the inodes of a new volume come from.
use Rattle.h2_num.specs.declared.block.Block.{Block}
use Rattle.h2_freemap.specs.declared.size.Size.TheVariants.{Small}
use Rattle.h2_freemap.specs.Space.{Space}
use Rattle.h2_freemap.specs.Taking.{Takes}

-- the root directory's block is taken first, and then the PFS's
pub record TakesInodes (before behind : Space) (directory pfs : Block) : Type 0 where
  pub between : Space
  pub first : Takes Small before between directory
  pub second : Takes Small between behind pfs
