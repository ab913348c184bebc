use Rattle.std.specs.Prelude.{◌≡◌, true, Some}
use Rattle.h2_inode.specs.Loaded.{no_content}
use Rattle.h2_inode.specs.LoadedLaws.{rereads_follow, alike_trans, alike_contents, alike_directory, alike_pfs_list}
use Rattle.h2_inode.proofs.loaded_laws.loads_law.Goals as goal

pub returns-clause-chained : goal.returns-clause-chained
returns-clause-chained c = λ u v w. alike_trans

pub returns-clause-contents : goal.returns-clause-contents
returns-clause-contents c = λ u v block at size bytes alike stands. alike_contents (λ r b. block r ≡ Some b) alike at size bytes stands

pub returns-clause-directories : goal.returns-clause-directories
returns-clause-directories c = λ u v may at size entries alike stands. alike_directory no_content (λ target number. may target number ≡ true) alike at size entries stands

pub returns-clause-pfs_lists : goal.returns-clause-pfs_lists
returns-clause-pfs_lists c = λ u v at next pfss alike stands. alike_pfs_list no_content alike at next pfss stands

pub returns-clause-follows : goal.returns-clause-follows
returns-clause-follows c = λ u v block h. rereads_follow u v h (λ r b. block r ≡ Some b)
