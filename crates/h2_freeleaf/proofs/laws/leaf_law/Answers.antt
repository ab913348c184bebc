use Rattle.h2_freeleaf.specs.LeafLaws.{leaf_spelling, leaf_one, LeafBytes-same}
use Rattle.h2_freeleaf.proofs.laws.leaf_law.Goals as goal

pub returns : goal.returns
returns c = record { one_spelling = leaf_spelling c.layout_law.ensures.one_spelling; one_value = leaf_one c.layout_law.ensures.one_segment; local = LeafBytes-same }
