use Rattle.std.specs.Prelude.{◌≡◌, true, Some, refl}
use Rattle.h2_inode.specs.Loaded.{at_root, reading}
use Rattle.h2_meaning.specs.Forest.{InTable}
use Rattle.h2_meaning.specs.ReplacedLaws.{nodes_replaced, table_kept, all_others, whole_table, nodes_of}
use Rattle.h2_meaning.specs.AddedLaws.{nodes_added, nodes_removed}
use Rattle.h2_meaning.specs.NarrowLaws.{nodes_narrowed}
use Rattle.h2_meaning.specs.ReplacedForestLaws.{forest_kept, inode_kept}
use Rattle.h2_meaning.proofs.replaced.replaced_law.Goals as goal

pub returns-clause-nodes : goal.returns-clause-nodes
returns-clause-nodes c = λ u v stay block t k root before after table old node renews plain is named targets.
    nodes_replaced u v (λ m. stay m ≡ true) root renews t k named (λ r b. block r ≡ Some b) plain is (InTable before) (InTable after) targets table old node

pub returns-clause-tables : goal.returns-clause-tables
returns-clause-tables c = λ u v stay block t k root next now_next table old node renews plain is named.
    table_kept u v (λ m. stay m ≡ true) root renews t k named (λ r b. block r ≡ Some b) plain is next now_next table old node

pub returns-clause-forests : goal.returns-clause-forests
returns-clause-forests c = λ u v stay block top t root next forest p renews plain is named within now.
    forest_kept u v (λ m. stay m ≡ true) root renews (λ r b. block r ≡ Some b) plain top t next forest p is named within now

pub returns-clause-held : goal.returns-clause-held
returns-clause-held c = λ v block t. nodes_of (reading v (λ r b. block r ≡ Some b)) (at_root t)

pub returns-clause-whole : goal.returns-clause-whole
returns-clause-whole c = λ v block t. whole_table (reading v (λ r b. block r ≡ Some b)) (at_root t)

pub returns-clause-others : goal.returns-clause-others
returns-clause-others c = λ u v stay. all_others u v (λ m. stay m ≡ true)

pub returns-clause-inodes : goal.returns-clause-inodes
returns-clause-inodes c = λ u v stay block top t k root next forest p old node renews plain.
    inode_kept u v (λ m. stay m ≡ true) root renews (λ r b. block r ≡ Some b) plain top t k next forest p old node

pub returns-clause-added : goal.returns-clause-added
returns-clause-added c = λ u v stay block t d leaf before after table node renews plain gains targets.
    nodes_added u v (λ m. stay m ≡ true) t renews leaf.key gains.others (λ r b. block r ≡ Some b) plain (InTable before) (InTable after) targets leaf refl gains.leaves d table node

pub returns-clause-removed : goal.returns-clause-removed
returns-clause-removed c = λ u v stay block t key before after table renews plain loses targets.
    nodes_removed u v (λ m. stay m ≡ true) t renews key loses.others (λ r b. block r ≡ Some b) plain (InTable before) (InTable after) targets loses.leaves table

pub returns-clause-narrowed : goal.returns-clause-narrowed
returns-clause-narrowed c = λ v block t next before after table whole narrow.
    nodes_narrowed (reading v (λ r b. block r ≡ Some b)) (InTable before) (InTable after) table next whole narrow (at_root t)
