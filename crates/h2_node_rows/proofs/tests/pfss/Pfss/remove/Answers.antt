use Rattle.std.proofs.Common.{◌≡◌, true, false, sym, ◌∙◌}
use Rattle.h2_node_rows.proofs.PfssTopped.{removed_or_not}
use Rattle.h2_node_rows.proofs.tests.pfss.Pfss.remove.Goals as goal

pub returns : goal.returns
returns c = removed_or_not _ _ _ _ _ _ _ c.pfs_remove.result c.requires c.pfs_remove.ensures.removes c.pfs_remove.ensures.visits

pub pfs_remove-requires-clause-free : goal.pfs_remove-requires-clause-free
pfs_remove-requires-clause-free c = λ none m key held belongs. let clash : true ≡ false = sym held ∙ c.requires.free m in absurd (cc)
