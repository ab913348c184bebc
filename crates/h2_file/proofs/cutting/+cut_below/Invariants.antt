use Rattle.h2_file.proofs.cutting.+cut_below.Given as goal

abbrev pub decreases-cut_below : goal.decreases-cut_below
decreases-cut_below g l = let f = g.N.Sets.forest l.n.now in f.bits l.at.0
