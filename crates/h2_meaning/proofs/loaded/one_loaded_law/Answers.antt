use Rattle.std.specs.Prelude.{◌≡◌, Some}
use Rattle.h2_inode.specs.Loaded.{reading}
use Rattle.h2_inode.specs.LoadedOne.{loaded_single, told_blocks_one}
use Rattle.h2_meaning.specs.SingleLaws.{table_one, forest_one}
use Rattle.h2_meaning.proofs.loaded.one_loaded_law.Goals as goal

pub returns-clause-table : goal.returns-clause-table
returns-clause-table c = λ u block t m n x y one. table_one (reading u (λ r b. block r ≡ Some b)) (loaded_single u one (λ r b. block r ≡ Some b) (told_blocks_one block)) t m n x y

pub returns-clause-forest : goal.returns-clause-forest
returns-clause-forest c = λ u block t next f g one. forest_one (reading u (λ r b. block r ≡ Some b)) (loaded_single u one (λ r b. block r ≡ Some b) (told_blocks_one block)) t next f g
