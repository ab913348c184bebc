use Rattle.h2_tree.proofs.inserting.+insert.Given as goal

abbrev pub decreases-insert : goal.decreases-insert
decreases-insert g l = let f = g.N.Sets.forest l.n.now in f.bits l.root.0
