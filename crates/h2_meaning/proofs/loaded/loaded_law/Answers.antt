use Rattle.std.specs.Prelude.{◌≡◌, true, Some, refl}
use Rattle.h2_inode.specs.Loaded.{at_root}
use Rattle.h2_inode.specs.Others.{over_change, over_renewal}
use Rattle.h2_inode.specs.OthersLaws.{kept_follow}
use Rattle.h2_inode.specs.RenewedLaws.{renewed_follow}
use Rattle.h2_inode.specs.ContentsApart.{over_contents, more_follow}
use Rattle.h2_meaning.specs.CarryLaws.{table_carried, forest_carried}
use Rattle.h2_meaning.specs.LoadedLaws.{table_alike, forest_alike}
use Rattle.h2_meaning.proofs.loaded.loaded_law.Goals as goal

pub returns-clause-loads_tables : goal.returns-clause-loads_tables
returns-clause-loads_tables c = λ u v block at next table alike stands. table_alike (λ r b. block r ≡ Some b) alike at next table stands

pub returns-clause-loads_forests : goal.returns-clause-loads_forests
returns-clause-loads_forests c = λ u v block at next forest alike stands. forest_alike (λ r b. block r ≡ Some b) alike at next forest stands

pub returns-clause-more_tables : goal.returns-clause-more_tables
returns-clause-more_tables c = λ u block more t next table told.
    table_carried (over_contents u (λ r b. block r ≡ Some b) (λ r b. more r ≡ Some b)) (more_follow u (λ r b. block r ≡ Some b) (λ r b. more r ≡ Some b) told) t t next table refl

pub returns-clause-more_forests : goal.returns-clause-more_forests
returns-clause-more_forests c = λ u block more t next forest told.
    forest_carried (over_contents u (λ r b. block r ≡ Some b) (λ r b. more r ≡ Some b)) (more_follow u (λ r b. block r ≡ Some b) (λ r b. more r ≡ Some b) told) t t next forest refl

pub returns-clause-kept_tables : goal.returns-clause-kept_tables
returns-clause-kept_tables c = λ u v stay block at next table keeps is.
    table_carried (over_change u v (λ m. stay m ≡ true) (λ r b. block r ≡ Some b)) (kept_follow u v (λ m. stay m ≡ true) keeps (λ r b. block r ≡ Some b)) (at_root at) (at_root at) next table (refl, is)

pub returns-clause-renewed_tables : goal.returns-clause-renewed_tables
returns-clause-renewed_tables c = λ u v stay block at next table renews plain is.
    table_carried (over_renewal u v (λ m. stay m ≡ true) (λ r b. block r ≡ Some b)) (renewed_follow u v (λ m. stay m ≡ true) renews (λ r b. block r ≡ Some b) plain) (at_root at) (at_root at) next table (refl, is)

pub returns-clause-renewed_forests : goal.returns-clause-renewed_forests
returns-clause-renewed_forests c = λ u v stay block at next forest renews plain is.
    forest_carried (over_renewal u v (λ m. stay m ≡ true) (λ r b. block r ≡ Some b)) (renewed_follow u v (λ m. stay m ≡ true) renews (λ r b. block r ≡ Some b) plain) (at_root at) (at_root at) next forest (refl, is)
