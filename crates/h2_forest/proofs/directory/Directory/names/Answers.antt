use Rattle.std.proofs.Common.{◌++◌, ap, sym, ◌∙◌, append-nil}
use Rattle.std.specs.FinMap as map
use Rattle.std.specs.FinMap.{slice_cmp-IsAntisymmetric, nat_cmp-IsAntisymmetric}
use Rattle.std.specs.Cmp.Lexicographic.{nat_list_cmp_total}
use Rattle.h2_maps.specs.Maps.{kept_keys}
use Rattle.h2_forest.proofs.directory.Directory.names.Goals as goal

pub returns : goal.returns
returns c =
    sym (append-nil c.loop-name.names) ∙ ap (λ rest. c.loop-name.names ++ rest) (sym c.in-None.ensures.steps.0)
    ∙ c.loop-name.invariant ∙ c.into_iter-name-iterator.ensures.into_iter_gives ∙ c.keys-name-items.ensures.rest
    ∙ sym (kept_keys nat_list_cmp_total (slice_cmp-IsAntisymmetric nat_cmp-IsAntisymmetric) c.self.inside.entries.entries c.keys-name-items.ensures.ordered)
    ∙ ap map.keys c.self.view_is
