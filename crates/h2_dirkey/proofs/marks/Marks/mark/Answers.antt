use Rattle.std.proofs.Common.{◌≡◌, length, arith}
use Rattle.h2_dirkey.proofs.MarkLemmas.{one_marked}
use Rattle.h2_dirkey.proofs.marks.Marks.mark.Goals as goal

pub returns : goal.returns
returns c = let whole : length c.args.self.now.words ≡ 512 = c.args.self.now.whole in one_marked c.args.c c.args.self.now.words (omega arith)
