use Rattle.h2_codes.proofs.Layouts.{one_segment, one_spelling}
use Rattle.h2_codes.proofs.laws.layout_law.Goals as goal

pub returns : goal.returns
returns c = record { one_segment = one_segment; one_spelling = one_spelling }
