use Rattle.h2_inode.specs.NodeLaws.{named_stays, brings_leaves, stores_leaves, replaces_leaves, inode_leaves}
use Rattle.h2_inode.proofs.laws.nodes_law.Goals as goal

pub returns-clause-named : goal.returns-clause-named
returns-clause-named c = named_stays

pub returns-clause-brought : goal.returns-clause-brought
returns-clause-brought c = λ f g x at sound brings stands. brings_leaves f g x sound brings at stands

pub returns-clause-stored : goal.returns-clause-stored
returns-clause-stored c = stores_leaves

pub returns-clause-replaced : goal.returns-clause-replaced
returns-clause-replaced c = replaces_leaves

pub returns-clause-leaves : goal.returns-clause-leaves
returns-clause-leaves c = inode_leaves
