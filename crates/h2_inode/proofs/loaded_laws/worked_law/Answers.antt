use Rattle.std.specs.Prelude.{◌≡◌, true}
use Rattle.h2_inode.specs.Loaded.{no_content}
use Rattle.h2_inode.specs.LoadedExample.{empty_directory, one_pfs}
use Rattle.h2_inode.proofs.loaded_laws.worked_law.Goals as goal

pub returns-clause-directory : goal.returns-clause-directory
returns-clause-directory c = λ u may. empty_directory u no_content (λ target number. may target number ≡ true)

pub returns-clause-pfs_list : goal.returns-clause-pfs_list
returns-clause-pfs_list c = λ u. one_pfs u no_content
