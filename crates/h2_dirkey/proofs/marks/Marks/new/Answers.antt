use Rattle.h2_dirkey.proofs.MarkLemmas.{none_marked}
use Rattle.h2_dirkey.proofs.marks.Marks.new.Goals as goal

pub returns : goal.returns
returns c = λ k marked. none_marked 512 k marked
