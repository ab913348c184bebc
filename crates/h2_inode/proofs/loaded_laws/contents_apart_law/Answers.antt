use Rattle.std.specs.Prelude.{◌≡◌, true, Some}
use Rattle.h2_inode.specs.Loaded.{no_content}
use Rattle.h2_inode.specs.ContentsApart.{directory_apart, pfs_list_apart, bytes_more, more_follow}
use Rattle.h2_inode.proofs.loaded_laws.contents_apart_law.Goals as goal

pub returns-clause-directories : goal.returns-clause-directories
returns-clause-directories c = λ u block may t size entries. (
  directory_apart u (λ r b. block r ≡ Some b) no_content (λ target number. may target number ≡ true) t size entries,
  directory_apart u no_content (λ r b. block r ≡ Some b) (λ target number. may target number ≡ true) t size entries,
)

pub returns-clause-pfs_lists : goal.returns-clause-pfs_lists
returns-clause-pfs_lists c = λ u block t next pfss. (pfs_list_apart u (λ r b. block r ≡ Some b) no_content t next pfss, pfs_list_apart u no_content (λ r b. block r ≡ Some b) t next pfss)

pub returns-clause-files : goal.returns-clause-files
returns-clause-files c = λ u block more t size body bytes told. bytes_more u (λ r b. block r ≡ Some b) (λ r b. more r ≡ Some b) told t size body bytes

pub returns-clause-follows : goal.returns-clause-follows
returns-clause-follows c = λ u block more told. more_follow u (λ r b. block r ≡ Some b) (λ r b. more r ≡ Some b) told
