use Rattle.h2_inode.specs.VisitLaws.{walks_visit, seeks_visit, visits_trans, visits_leaves, visits_leaf, visits_name}
use Rattle.h2_inode.proofs.laws.visits_law.Goals as goal

pub returns-clause-sets : goal.returns-clause-sets
returns-clause-sets c = walks_visit

pub returns-clause-inodes : goal.returns-clause-inodes
returns-clause-inodes c = seeks_visit

pub returns-clause-chained : goal.returns-clause-chained
returns-clause-chained c = visits_trans

pub returns-clause-trees : goal.returns-clause-trees
returns-clause-trees c = λ f g at sound h. visits_leaves f g sound h at

pub returns-clause-leaves : goal.returns-clause-leaves
returns-clause-leaves c = visits_leaf

pub returns-clause-names : goal.returns-clause-names
returns-clause-names c = visits_name
