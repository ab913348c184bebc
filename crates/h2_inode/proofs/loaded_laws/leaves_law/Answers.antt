use Rattle.std.specs.Prelude.{◌≡◌, true, Some}
use Rattle.std.proofs.Common.{◌∙◌}
use Rattle.h2_inode.specs.Loaded.{no_content}
use Rattle.h2_inode.specs.PathLaws.{refit_leaves}
use Rattle.h2_inode.specs.LeafReading.{directory_kept, contents_kept}
use Rattle.h2_inode.proofs.loaded_laws.leaves_law.Goals as goal

pub returns-clause-directories : goal.returns-clause-directories
returns-clause-directories c = λ u v may at size entries keeps names. directory_kept u v no_content at keeps (λ target number. may target number ≡ true) names size entries

pub returns-clause-contents : goal.returns-clause-contents
returns-clause-contents c = λ u v block at size bytes keeps. contents_kept u v (λ r b. block r ≡ Some b) at keeps size bytes

pub returns-clause-refitted : goal.returns-clause-refitted
returns-clause-refitted c = λ u v may at m size entries sound h stood own stands.
    directory_kept u v no_content m (refit_leaves u.forest v.forest at sound h stood own m stands) (λ target number. may target number ≡ true) (λ r n e. h.name r ∙ e) size entries
