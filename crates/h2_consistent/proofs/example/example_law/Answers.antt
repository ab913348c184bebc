use Rattle.h2_consistent.proofs.TwoNames.{two_links_tree, fewer_links, more_links, next_above}
use Rattle.h2_consistent.proofs.NoTrees.{nothing_named, root_named, root_leads_nowhere}
use Rattle.h2_consistent.proofs.example.example_law.Goals as goal

pub returns-clause-two_links : goal.returns-clause-two_links
returns-clause-two_links c = two_links_tree

pub returns-clause-one_link : goal.returns-clause-one_link
returns-clause-one_link c = fewer_links

pub returns-clause-three_links : goal.returns-clause-three_links
returns-clause-three_links c = more_links

pub returns-clause-next_number : goal.returns-clause-next_number
returns-clause-next_number c = next_above

pub returns-clause-dangling : goal.returns-clause-dangling
returns-clause-dangling c = nothing_named

pub returns-clause-named_root : goal.returns-clause-named_root
returns-clause-named_root c = root_named

pub returns-clause-off_root : goal.returns-clause-off_root
returns-clause-off_root c = root_leads_nowhere
