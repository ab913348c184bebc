use Rattle.std.proofs.Common.{ap, ◌∙◌}
use Rattle.std.specs.FinMap as map
use Rattle.std.specs.FinMap.{slice_cmp-IsAntisymmetric, nat_cmp-IsAntisymmetric}
use Rattle.std.specs.Cmp.Lexicographic.{nat_list_cmp_total}
use Rattle.h2_maps.specs.Maps.{one_inserted}
use Rattle.h2_forest.proofs.directory.Directory.insert.Goals as goal

pub returns-clause-ok : goal.returns-clause-ok
returns-clause-ok c =
    one_inserted nat_list_cmp_total (slice_cmp-IsAntisymmetric nat_cmp-IsAntisymmetric) c.self.inside.entries.entries c.insert.new.self.entries c.args.name c.args.number c.in_ok-insert.ensures.updates.0
    ∙ ap (λ m. map.insert m c.args.name c.args.number) c.self.view_is
