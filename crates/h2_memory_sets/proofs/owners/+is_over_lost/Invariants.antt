use Rattle.h2_memory_sets.proofs.owners.+is_over_lost.Given as goal

abbrev pub decreases-is_over_lost : goal.decreases-is_over_lost
decreases-is_over_lost l = l.n
