use Rattle.std.specs.Prelude.{◌≡◌, Some}
use Rattle.h2_inode.specs.EmbeddedLaws.{embeds_first, embeds_one, bytes_one}
use Rattle.h2_inode.specs.Loaded.{reading}
use Rattle.h2_inode.specs.LoadedOne.{loaded_single, told_blocks_one}
use Rattle.h2_inode.proofs.bytes_laws.bytes_law.Goals as goal

pub returns-clause-first : goal.returns-clause-first
returns-clause-first c = embeds_first

pub returns-clause-embedded : goal.returns-clause-embedded
returns-clause-embedded c = embeds_one

pub returns-clause-one : goal.returns-clause-one
returns-clause-one c = λ u block t size body x y names. bytes_one (reading u (λ r p. block r ≡ Some p)) (loaded_single u names (λ r p. block r ≡ Some p) (told_blocks_one block)) t size body x y
