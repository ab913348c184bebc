use Rattle.h2_tree.proofs.removing.+take.Given as goal

abbrev pub decreases-take : goal.decreases-take
decreases-take g l = let f = g.N.Sets.forest l.n.now in f.bits l.at.0
