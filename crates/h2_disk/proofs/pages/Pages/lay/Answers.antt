use Rattle.std.proofs.Common.{◌≡◌, ◌+◌, ◌-◌, arith}
use Rattle.h2_disk.proofs.PageLemmas.{pieces_laid}
use Rattle.h2_disk.proofs.pages.Pages.lay.Goals as goal

pub loop-done-preserved : goal.loop-done-preserved
loop-done-preserved c =
    let piece : c.loop-done.done + c.piece_len-n.result - c.loop-done.done ≡ c.piece_len-n.result = omega arith in
    record {
      within = omega arith;
      starts = cc;
      laid = pieces_laid c.args.at c.loop-done.done c.piece_len-n.result c.args.bytes.now _ _ _ (omega arith) c.loop-done.invariant.laid (rw piece at c.lay_piece.ensures.laid);
    }
