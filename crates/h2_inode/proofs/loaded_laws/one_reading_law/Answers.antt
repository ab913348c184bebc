use Rattle.std.specs.Prelude.{◌≡◌, true, Some}
use Rattle.h2_inode.specs.Loaded.{reading, no_content}
use Rattle.h2_inode.specs.SingleLaws.{contents_one, directory_one, pfs_list_one}
use Rattle.h2_inode.specs.NamesOneLaws.{walks_one, readies_one, alters_one, stores_one, makes_one, replaces_one, seeks_one, plants_one}
use Rattle.h2_inode.specs.LoadedOne.{loaded_single, told_blocks_one}
use Rattle.h2_inode.proofs.loaded_laws.one_reading_law.Goals as goal

pub returns-clause-single : goal.returns-clause-single
returns-clause-single c = λ u one. loaded_single u one no_content (λ r x y p q. absurd p)

pub returns-clause-contents : goal.returns-clause-contents
returns-clause-contents c = λ u block one. loaded_single u one (λ r b. block r ≡ Some b) (told_blocks_one block)

pub returns-clause-files : goal.returns-clause-files
returns-clause-files c = λ u block t size x y one. contents_one (reading u (λ r b. block r ≡ Some b)) (loaded_single u one (λ r b. block r ≡ Some b) (told_blocks_one block)) t size x y

pub returns-clause-directories : goal.returns-clause-directories
returns-clause-directories c = λ u may might t m n d e one.
    directory_one (reading u no_content) (loaded_single u one no_content (λ r x y p q. absurd p)) (λ target number. may target number ≡ true) (λ target number. might target number ≡ true) t m n d e

pub returns-clause-pfs_lists : goal.returns-clause-pfs_lists
returns-clause-pfs_lists c = λ u t m n x y one. pfs_list_one (reading u no_content) (loaded_single u one no_content (λ r x y p q. absurd p)) t m n x y

pub returns-clause-visited : goal.returns-clause-visited
returns-clause-visited c = λ f g sound one h. h.names_one sound one

pub returns-clause-sought : goal.returns-clause-sought
returns-clause-sought c = λ f g top key x sound one h. seeks_one f g top key x sound one h

pub returns-clause-planted : goal.returns-clause-planted
returns-clause-planted c = λ f g top key x sound one h none. plants_one f g top key x sound one none h

pub returns-clause-walked : goal.returns-clause-walked
returns-clause-walked c = walks_one

pub returns-clause-readied : goal.returns-clause-readied
returns-clause-readied c = readies_one

pub returns-clause-altered : goal.returns-clause-altered
returns-clause-altered c = alters_one

pub returns-clause-stored : goal.returns-clause-stored
returns-clause-stored c = stores_one

pub returns-clause-made : goal.returns-clause-made
returns-clause-made c = makes_one

pub returns-clause-replaced : goal.returns-clause-replaced
returns-clause-replaced c = replaces_one
