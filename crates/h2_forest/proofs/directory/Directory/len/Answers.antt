use Rattle.std.proofs.Common.{ap, sym, ◌∙◌}
use Rattle.std.specs.FinMap as map
use Rattle.std.specs.FinMap.{slice_cmp-IsAntisymmetric, nat_cmp-IsAntisymmetric}
use Rattle.std.specs.Cmp.Lexicographic.{nat_list_cmp_total}
use Rattle.h2_maps.specs.Maps.{kept_len}
use Rattle.h2_forest.proofs.directory.Directory.len.Goals as goal

pub returns : goal.returns
returns c = c.len.ensures.len
    ∙ sym (kept_len nat_list_cmp_total (slice_cmp-IsAntisymmetric nat_cmp-IsAntisymmetric) c.self.inside.entries.entries c.len.ensures.ordered)
    ∙ ap map.len c.self.view_is
