use Rattle.h2_memory_sets.proofs.owners.+leads_over.Given as goal

abbrev pub decreases-leads_over : goal.decreases-leads_over
decreases-leads_over l = l.n
