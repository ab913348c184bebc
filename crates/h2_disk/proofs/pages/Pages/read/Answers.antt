use Rattle.std.proofs.Common.{arith}
use Rattle.h2_disk.proofs.PageLemmas.{fills_more}
use Rattle.h2_disk.proofs.pages.Pages.read.Goals as goal

pub loop-done-preserved : goal.loop-done-preserved
loop-done-preserved c = record {
  within = omega arith;
  filled = fills_more c.args.at c.loop-done.done c.piece_len-n.result _ _ _ c.loop-done.invariant.filled c.read_piece.ensures;
}
